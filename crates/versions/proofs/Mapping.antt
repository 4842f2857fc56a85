-- A list changed in place, one element after another.
use Rattle.std.proofs.Common.{◌≡◌, ℕ, ◌+◌, ◌<◌, List, [], ◌∷◌, ◌++◌, map, length, get_or, take, drop, set, sym, ap, ◌∙◌, arith}
use Rattle.std.proofs.lemmas.List.{drop_more, take_more, map-append, append_assoc, set_at, get_or_at, length-map, length-take-le}

pub mapped-step : {A : Type 0} (g : A → A) (xs ys : List A) (i : ℕ) (d : A) → i < length xs → ys ≡ map g (take i xs) ++ drop i xs
    → set ys i (g (get_or ys i d)) ≡ map g (take (i + 1) xs) ++ drop (i + 1) xs
mapped-step g xs ys i d h is =
    let front = map g (take i xs) in
    let long : length front ≡ i = length-map (take i xs) g ∙ length-take-le i xs (omega arith) in
    let split : ys ≡ front ++ get_or xs i d ∷ drop (i + 1) xs = is ∙ ap (λ l. front ++ l) (drop_more xs i d h) in
    let here : get_or ys i d ≡ get_or xs i d = ap (λ l. get_or l i d) split ∙ get_or_at front (get_or xs i d) (drop (i + 1) xs) d i long in
    ap (λ x. set ys i (g x)) here
    ∙ (ap (λ l. set l i (g (get_or xs i d))) split
    ∙ (set_at front (get_or xs i d) (drop (i + 1) xs) (g (get_or xs i d)) i long
    ∙ sym (ap (λ l. l ++ drop (i + 1) xs) (ap (map g) (take_more xs i d h) ∙ map-append g (take i xs) (get_or xs i d ∷ [])) ∙ append_assoc front (g (get_or xs i d) ∷ []) (drop (i + 1) xs))))
