use Rattle.std.proofs.Common.{false, bit_and, sym, subst}
use Rattle.versions.specs.Sharers.{FirstFrom, owns_at}
use Rattle.versions.proofs.Sharing.{first-none-of, first-of, no-marks, owns-left}
use Rattle.versions.proofs.sharers.Sharers.owner_from.Goals as goal

pub returns-in_err-bit : goal.returns-in_err-bit
returns-in_err-bit c vs s =
    let n = c.args.self.shares in
    subst (FirstFrom (owns_at vs) c.args.k) (sym c.from_residual.ensures)
    (first-none-of (bit_and n 170) (λ i. false) (owns_at vs) (no-marks n) (owns-left n vs s.few s.owns) c.args.k c.in_err-bit.ensures)

pub returns : goal.returns
returns c vs s =
    let n = c.args.self.shares in
    first-of (bit_and n 170) (λ i. false) (owns_at vs) (no-marks n) (owns-left n vs s.few s.owns) c.args.k c.in_ok-bit.bit c.in_ok-bit.ensures
