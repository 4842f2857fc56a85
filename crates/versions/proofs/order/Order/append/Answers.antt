use Rattle.std.proofs.Common.{◌≡◌, ℕ, ◌<◌, List, ◌++◌, ◌∷◌, [], None, set, sym, subst, arith}
use Rattle.versions.specs.Orders.{place_in, Apart, Placing}
use Rattle.versions.proofs.Ordering.{apart-push, room_for, few}
use Rattle.versions.proofs.Placing.{placing-push}
use Rattle.versions.proofs.order.Order.append.Goals as goal

pub push-requires : goal.push-requires
push-requires c =
    let ps = c.self.inside.list in
    let p : c.args.p < 4 = omega (arith, c.index.ensures.value, c.index.ensures.bound) in
    let new = subst (λ (qs : List ℕ). place_in qs c.args.p ≡ None) (sym c.self.view_is) c.requires in
    room_for ps c.args.p c.self.invariant.0 p new (few ps c.self.invariant.0)

pub invariant_of-self : goal.invariant_of-self
invariant_of-self c =
    let ps = c.self.inside.list in
    let places = c.self.inside.places in
    let n = c.len.result in
    let p : c.args.p < 4 = omega (arith, c.index.ensures.value, c.index.ensures.bound) in
    let new = subst (λ (qs : List ℕ). place_in qs c.args.p ≡ None) (sym c.self.view_is) c.requires in
    let room = room_for ps c.args.p c.self.invariant.0 p new (few ps c.self.invariant.0) in
    let placed = placing-push ps places c.args.p n c.self.invariant.1 p new c.len.ensures.value (omega (arith, c.len.ensures.value, room)) in (
      subst Apart (sym c.push.ensures) (apart-push ps c.args.p c.self.invariant.0 p new),
      subst (λ (qs : List ℕ). Placing qs (set places c.index.result n)) (sym c.push.ensures) (subst (λ (k : ℕ). Placing (ps ++ c.args.p ∷ []) (set places k n)) (sym c.index.ensures.value) placed),
    )
