use Rattle.std.proofs.Common.{◌≤◌, List, ℕ, ap, ◌∙◌, arith}
use Rattle.versions.specs.Orders.{place_in}
use Rattle.versions.proofs.Placing.{none_above}
use Rattle.versions.proofs.order.Order.place.Goals as goal

pub returns-in_err-place-clause-value : goal.returns-in_err-place-clause-value
returns-in_err-place-clause-value c =
    let p = c.args.p in
    let above : 4 ≤ p = omega (arith, c.in_err-place.ensures.lookup.3, c.self.invariant.1.four) in
    c.from_residual.ensures ∙ (none_above c.self.inside.list p c.self.invariant.0 above ∙ ap (λ (ps : List ℕ). place_in ps p) c.self.view_is)
