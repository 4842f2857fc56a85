use Rattle.std.proofs.Common.{◌-◌, ℕ, bit_and, sym, ap, ◌∙◌, arith}
use Rattle.std.proofs.lemmas.Nat.{one_shl}
use Rattle.versions.proofs.Sharing.{last-none, last-some}
use Rattle.versions.proofs.sharers.last_below.Goals as goal

pub returns-then-earlier-eq0 : goal.returns-then-earlier-eq0
returns-then-earlier-eq0 c =
    let mask = ap (λ (m : ℕ). bit_and c.args.bits (m - 1)) (one_shl c.args.k 32 (omega arith)) in
    last-none c.args.bits c.args.k (sym mask ∙ c.if-earlier-eq0.true)

pub returns : goal.returns
returns c =
    let mask = ap (λ (m : ℕ). bit_and c.args.bits (m - 1)) (one_shl c.args.k 32 (omega arith)) in
    last-some c.args.bits c.args.k c.ilog2.result (omega (arith, mask, c.ilog2.ensures.power_le)) (omega (arith, mask, c.ilog2.ensures.next_power_gt))
