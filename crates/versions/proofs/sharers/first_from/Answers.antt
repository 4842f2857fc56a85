use Rattle.std.proofs.Common.{arith}
use Rattle.versions.proofs.Sharing.{first-none, first-some}
use Rattle.versions.proofs.sharers.first_from.Goals as goal

pub returns-then-later-eq0 : goal.returns-then-later-eq0
returns-then-later-eq0 c = first-none c.args.bits c.args.k c.if-later-eq0.true

pub returns : goal.returns
returns c = first-some c.args.bits c.args.k (omega arith) (omega (arith, c.if-later-eq0.false))
