use Rattle.std.proofs.Common.{sym, subst}
use Rattle.versions.specs.Sharers.{FirstFrom, owns_at, holds_at}
use Rattle.versions.proofs.Sharing.{first-none-of, first-of, marked}
use Rattle.versions.proofs.sharers.Sharers.holder_from.Goals as goal

pub returns-in_err-bit : goal.returns-in_err-bit
returns-in_err-bit c vs s =
    subst (FirstFrom (holds_at vs) c.args.k) (sym c.from_residual.ensures) (first-none-of c.args.self.shares (marked vs) (owns_at vs) s.marks s.owns c.args.k c.in_err-bit.ensures)

pub returns : goal.returns
returns c vs s = first-of c.args.self.shares (marked vs) (owns_at vs) s.marks s.owns c.args.k c.in_ok-bit.bit c.in_ok-bit.ensures
