use Rattle.std.proofs.Common.{◌≡◌, ℕ, zero, suc, Bool, false, List, [], ◌∷◌, get_or, is_some, ap, ◌∙◌, arith}
use Rattle.versions.specs.Orders.{place_in, Apart}
use Rattle.versions.proofs.Placing.{none_above}
use Rattle.snooping.proofs.caches.running.Goals as goal

-- of the four processors and of what is none
five : (ps : List ℕ) (a b c d : Bool) → Apart ps → a ≡ is_some (place_in ps 0) → b ≡ is_some (place_in ps 1) → c ≡ is_some (place_in ps 2) → d ≡ is_some (place_in ps 3) → (q : ℕ)
    → get_or (a ∷ b ∷ c ∷ d ∷ false ∷ []) q false ≡ is_some (place_in ps q)
five ps a b c d apart p0 p1 p2 p3 zero = p0
five ps a b c d apart p0 p1 p2 p3 (suc zero) = p1
five ps a b c d apart p0 p1 p2 p3 (suc (suc zero)) = p2
five ps a b c d apart p0 p1 p2 p3 (suc (suc (suc zero))) = p3
five ps a b c d apart p0 p1 p2 p3 (suc (suc (suc (suc zero)))) = ap is_some (none_above ps 4 apart (omega arith))
five ps a b c d apart p0 p1 p2 p3 (suc (suc (suc (suc (suc q))))) = ap is_some (none_above ps (suc (suc (suc (suc (suc q))))) apart (omega arith))

pub returns : goal.returns
returns c =
    five c.args.order.now c.is_some.result c.is_some-2.result c.is_some-3.result c.is_some-4.result c.place.ensures.apart (c.is_some.ensures ∙ ap is_some c.place.ensures.value)
    (c.is_some-2.ensures ∙ ap is_some c.place-2.ensures.value) (c.is_some-3.ensures ∙ ap is_some c.place-3.ensures.value) (c.is_some-4.ensures ∙ ap is_some c.place-4.ensures.value)
