use Rattle.std.proofs.Common.{◌≡◌, ◌<◌, ◌≤◌, List, ℕ, length, drop, map, sym, subst, arith}
use Rattle.versions.specs.Orders.{Apart, Placing, moved_down}
use Rattle.versions.proofs.Ordering.{apart-drop}
use Rattle.versions.proofs.Placing.{placing-drop, one-changed, all-changed}
use Rattle.versions.proofs.order.Order.remove_first.Goals as goal

pub loop-place-preserved : goal.loop-place-preserved
loop-place-preserved c =
    let places = c.self.inside.places in
    let within : c.loop-place.place-index < length places = omega (arith, c.self.told, c.loop-place-test.true) in
    one-changed moved_down places c.loop-place.place-items c.loop-place.place-index c.moved_down.result 0 c.loop-place.invariant within c.moved_down.ensures

pub invariant_of-self : goal.invariant_of-self
invariant_of-self c =
    let ps = c.self.inside.list in
    let places = c.self.inside.places in
    let end : length places ≤ c.loop-place.place-index = omega (arith, c.self.told, c.loop-place-test.false) in
    let all : c.loop-place.place-items ≡ map moved_down places = all-changed moved_down places c.loop-place.place-items c.loop-place.place-index c.loop-place.invariant end in
    let some : 0 < length ps = subst (λ (qs : List ℕ). 0 < length qs) (sym c.self.view_is) c.requires in (
      subst Apart (sym c.remove_first.ensures) (apart-drop ps c.self.invariant.0),
      subst (λ (qs : List ℕ). Placing qs c.loop-place.place-items) (sym c.remove_first.ensures) (subst (Placing (drop 1 ps)) (sym all) (placing-drop ps places c.self.invariant.0 c.self.invariant.1 some)),
    )
