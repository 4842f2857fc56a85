use Rattle.std.proofs.Common.{sym, subst}
use Rattle.versions.specs.Sharers.{SquashedFrom}
use Rattle.versions.proofs.Sharing.{shares-none, shares-mark, shares-own}
use Rattle.versions.proofs.sharers.Sharers.squashed_from.Goals as goal

pub returns-in_err-first : goal.returns-in_err-first
returns-in_err-first c vs s = subst (SquashedFrom vs c.args.k) (sym c.from_residual.ensures) (shares-none vs c.args.self s c.args.k c.in_err-first.ensures)

pub returns-then-first-eq0 : goal.returns-then-first-eq0
returns-then-first-eq0 c vs s = shares-mark vs c.args.self s c.args.k c.in_ok-first.first c.if-first-eq0.true c.in_ok-first.ensures

pub returns-else-first-eq0 : goal.returns-else-first-eq0
returns-else-first-eq0 c vs s = shares-own vs c.args.self s c.args.k c.in_ok-first.first c.if-first-eq0.false c.in_ok-first.ensures
