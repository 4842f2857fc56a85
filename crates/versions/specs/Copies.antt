-- An order and its list of processors can be copied, so the list alone gives their fields back.
use Rattle.std.proofs.Common.{◌≡◌, ℕ, zero, suc, ◌-◌, ◌<◌, ◌≤◌, cond, ltb, List, [], ◌∷◌, ◌++◌, length, get_or, take, drop, replicate, Some, None, Option, sym, ap, ◌∙◌, subst, ⊎_elim, le_antisymm, not-suc-le-zero, le_of_suc-le-suc}
use Rattle.std.specs.Option.{unwrap_or}
use Rattle.std.proofs.lemmas.Bool.{cond-true, cond-false, lt-ltb, le-ltb, cases_lt}
use Rattle.std.proofs.lemmas.List.{ext_get_or, length-take-le, take-append-drop}
use Rattle.versions.specs.Orders.{place_in, Placing}

-- the four slots of a list: its own, and then 0
unfoldable pub slots_of : List ℕ → List ℕ
slots_of ps = ps ++ replicate (4 - length ps) 0

pub len_back : (row : List ℕ) (len : ℕ) → len ≤ 4 → length row ≡ 4 → length (take len row) ≡ len
len_back row len few four = length-take-le len row (subst (λ (n : ℕ). len ≤ n) (sym four) few)

pub row_back : (row : List ℕ) (len : ℕ) → len ≤ 4 → length row ≡ 4 → drop len row ≡ replicate (4 - len) 0 → slots_of (take len row) ≡ row
unfolding slots_of
row_back row len few four free =
    ap (λ (n : ℕ). take len row ++ replicate (4 - n) 0) (len_back row len few four)
    ∙ (ap (λ (l : List ℕ). take len row ++ l) (sym free) ∙ take-append-drop len row)

-- the place of each of the four processors in a list, or 4
abbrev place_or_four : List ℕ → ℕ → ℕ
place_or_four ps q = unwrap_or (place_in ps q) 4

unfoldable pub places_of : List ℕ → List ℕ
places_of ps = place_or_four ps 0 ∷ place_or_four ps 1 ∷ place_or_four ps 2 ∷ place_or_four ps 3 ∷ []

place-back : (x : ℕ) → x ≤ 4 → unwrap_or (cond (ltb x 4) (Some x) None) 4 ≡ x
place-back x most =
    ⊎_elim
    (λ (h : x < 4). ap (λ (o : Option ℕ). unwrap_or o 4) (cond-true (ltb x 4) (Some x) None (lt-ltb x 4 h)))
    (λ (h : 4 ≤ x). ap (λ (o : Option ℕ). unwrap_or o 4) (cond-false (ltb x 4) (Some x) None (le-ltb x 4 h)) ∙ le_antisymm h most)
    (cases_lt x 4)

pub places_back : (ps places : List ℕ) → Placing ps places → places_of ps ≡ places
unfolding places_of
places_back ps places x = ext_get_or 4 (places_of ps) places (sym x.four) at
  where
    one : (q : ℕ) → q < 4 → place_or_four ps q ≡ get_or places q 4
    one q h = ap (λ (o : Option ℕ). unwrap_or o 4) (sym (x.at q h)) ∙ place-back (get_or places q 4) (x.most q h)

    at : (q : ℕ) → q < 4 → get_or (places_of ps) q 4 ≡ get_or places q 4
    at zero h = one 0 h
    at (suc zero) h = one 1 h
    at (suc (suc zero)) h = one 2 h
    at (suc (suc (suc zero))) h = one 3 h
    at (suc (suc (suc (suc q)))) h = absurd (not-suc-le-zero (le_of_suc-le-suc (le_of_suc-le-suc (le_of_suc-le-suc (le_of_suc-le-suc h)))))
