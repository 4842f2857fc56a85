use Rattle.std.proofs.Common.{◌≡◌, ◌<◌, ◌≤◌, List, ℕ, length, take, map, sym, subst, arith}
use Rattle.versions.specs.Orders.{Apart, Placing, kept_below}
use Rattle.versions.proofs.Ordering.{apart-take}
use Rattle.versions.proofs.Placing.{placing-cut, one-changed, all-changed}
use Rattle.versions.proofs.order.Order.cut.Goals as goal

pub loop-place-preserved : goal.loop-place-preserved
loop-place-preserved c =
    let places = c.self.inside.places in
    let within : c.loop-place.place-index < length places = omega (arith, c.self.told, c.loop-place-test.true) in
    one-changed (kept_below c.args.k) places c.loop-place.place-items c.loop-place.place-index c.kept_below.result 0 c.loop-place.invariant within c.kept_below.ensures

pub invariant_of-self : goal.invariant_of-self
invariant_of-self c =
    let k = c.args.k in
    let ps = c.self.inside.list in
    let places = c.self.inside.places in
    let end : length places ≤ c.loop-place.place-index = omega (arith, c.self.told, c.loop-place-test.false) in
    let all : c.loop-place.place-items ≡ map (kept_below k) places = all-changed (kept_below k) places c.loop-place.place-items c.loop-place.place-index c.loop-place.invariant end in (
      subst Apart (sym c.truncate.ensures) (apart-take k ps c.self.invariant.0),
      subst (λ (qs : List ℕ). Placing qs c.loop-place.place-items) (sym c.truncate.ensures) (subst (Placing (take k ps)) (sym all) (placing-cut ps places k c.self.invariant.1)),
    )
