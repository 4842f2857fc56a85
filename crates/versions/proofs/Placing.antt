-- The table of places beside an order.
use Rattle.std.proofs.Common.{◌≡◌, ℕ, zero, suc, ◌+◌, ◌-◌, ◌<◌, ◌≤◌, Bool, true, false, cond, ◌||◌, eqb, ltb, List, [], ◌∷◌, ◌++◌, map, length, get_or, take, drop, set, Some, None, Option, sym, refl, ap, ◌∙◌, subst, ◌⊎◌, inl, inr, ⊎_elim, arith, add-one}
use Rattle.std.specs.Option.{option_map}
use Rattle.std.proofs.lemmas.Bool.{ne_eqb, eq-eqb, eqb-true, cond-true, cond-false, lt-ltb, le-ltb, cases_lt, cases_eq}
use Rattle.std.proofs.lemmas.List.{append-nil, drop_all, get_or-map, get_or-set_other, length-map, length-set, take_all}
use Rattle.std.proofs.lemmas.Grind.{get_or-set_at}
use Rattle.versions.specs.Orders.{place_in, Apart, Placing, kept_below, moved_down}
use Rattle.versions.proofs.Ordering.{none-some, place-none-cons, place-found, place-other, place_in-cons}

-- a place, where 4 is none
abbrev pub found : ℕ → Option ℕ
found x = cond (ltb x 4) (Some x) None

found-some : (x : ℕ) → x < 4 → found x ≡ Some x
found-some x h = cond-true (ltb x 4) (Some x) None (lt-ltb x 4 h)

found-none : (x : ℕ) → 4 ≤ x → found x ≡ None
found-none x h = cond-false (ltb x 4) (Some x) None (le-ltb x 4 h)

some-is : (j k : ℕ) → Some j ≡ Some k → j ≡ k
some-is j k e = cc

pub none_above : (ps : List ℕ) (p : ℕ) → Apart ps → 4 ≤ p → None ≡ place_in ps p
none_above [] p a h = refl
none_above (q ∷ qs) p a h = sym (place-none-cons q qs p (ne_eqb q p (λ e. omega (arith, e, a.0, h))) (sym (none_above qs p a.2 h)))

pub placing-push : (ps places : List ℕ) (p n : ℕ) → Placing ps places → p < 4 → place_in ps p ≡ None → n ≡ length ps → n < 4 → Placing (ps ++ p ∷ []) (set places p n)
placing-push ps places p n x small none long room = record {
  four = length-set places p n ∙ x.four;
  at = λ q h. ⊎_elim (λ (e : q ≡ p). here q e) (λ (e : q ≡ p → ⊥). ap found (get_or-set_other places p q n 4 e) ∙ (x.at q h ∙ sym (place-other ps p q (ne_eqb p q (λ s. e (sym s)))))) (cases_eq q p);
  most = λ q h. ⊎_elim (λ (e : q ≡ p). subst (λ (y : ℕ). y ≤ 4) (sym (mine q e)) (omega (arith, room))) (λ (e : q ≡ p → ⊥). subst (λ (y : ℕ). y ≤ 4) (sym (get_or-set_other places p q n 4 e)) (x.most q h)) (cases_eq q p);
}
  where
    mine : (q : ℕ) → q ≡ p → get_or (set places p n) q 4 ≡ n
    mine q e = get_or-set_at places p q n 4 e (omega (arith, x.four, small))

    here : (q : ℕ) → q ≡ p → found (get_or (set places p n) q 4) ≡ place_in (ps ++ p ∷ []) q
    here q e = ap found (mine q e) ∙ (found-some n room ∙ (ap Some long ∙ sym (subst (λ (y : ℕ). place_in (ps ++ p ∷ []) y ≡ Some (length ps)) (sym e) (place-found ps p p none (eq-eqb p p refl)))))

-- a table of four places, each changed by f
mapped : (ps places : List ℕ) (f : ℕ → ℕ) (qs : List ℕ) → Placing ps places → ((x : ℕ) → x ≤ 4 → f x ≤ 4) → ((q x : ℕ) → q < 4 → x ≤ 4 → found x ≡ place_in ps q → found (f x) ≡ place_in qs q) → Placing qs (map f places)
mapped ps places f qs x bound each = record {
  four = length-map places f ∙ x.four;
  at = λ q h. ap found (item q h) ∙ each q (get_or places q 4) h (x.most q h) (x.at q h);
  most = λ q h. subst (λ (y : ℕ). y ≤ 4) (sym (item q h)) (bound (get_or places q 4) (x.most q h));
}
  where
    item : (q : ℕ) → q < 4 → get_or (map f places) q 4 ≡ f (get_or places q 4)
    item q h = get_or-map f places q 4 4 (omega (arith, x.four, h))

abbrev only_below : ℕ → Option ℕ → Option ℕ
only_below k None = None
only_below k (Some j) = cond (ltb j k) (Some j) None

place-in-take : (k : ℕ) (ps : List ℕ) (q : ℕ) → place_in (take k ps) q ≡ only_below k (place_in ps q)
place-in-take zero ps q = none (place_in ps q)
  where
    none : (o : Option ℕ) → None ≡ only_below zero o
    none None = refl
    none (Some j) = sym (cond-false (ltb j zero) (Some j) None (le-ltb j zero (omega arith)))
place-in-take (suc k) [] q = refl
place-in-take (suc k) (r ∷ ps) q =
    place_in-cons r (take k ps) q
    ∙ (ap (λ (o : Option ℕ). cond (eqb r q) (Some 0) (option_map suc o)) (place-in-take k ps q)
    ∙ (go (eqb r q) (place_in ps q) ∙ ap (only_below (suc k)) (sym (place_in-cons r ps q))))
  where
    go : (t : Bool) (o : Option ℕ) → cond t (Some 0) (option_map suc (only_below k o)) ≡ only_below (suc k) (cond t (Some 0) (option_map suc o))
    go true o = sym (cond-true (ltb 0 (suc k)) (Some 0) None (lt-ltb 0 (suc k) (omega arith)))
    go false None = refl
    go false (Some j) =
        ⊎_elim
        (λ (h : j < k). ap (option_map suc) (cond-true (ltb j k) (Some j) None (lt-ltb j k h)) ∙ sym (cond-true (ltb (suc j) (suc k)) (Some (suc j)) None (lt-ltb (suc j) (suc k) (omega (arith, h)))))
        (λ (h : k ≤ j). ap (option_map suc) (cond-false (ltb j k) (Some j) None (le-ltb j k h)) ∙ sym (cond-false (ltb (suc j) (suc k)) (Some (suc j)) None (le-ltb (suc j) (suc k) (omega (arith, h)))))
        (cases_lt j k)

pub placing-cut : (ps places : List ℕ) (k : ℕ) → Placing ps places → Placing (take k ps) (map (kept_below k) places)
placing-cut ps places k x = mapped ps places (kept_below k) (take k ps) x bound each
  where
    bound : (x : ℕ) → x ≤ 4 → kept_below k x ≤ 4
    bound x h = go (ltb x k)
      where
        go : (t : Bool) → cond t x 4 ≤ 4
        go true = h
        go false = omega arith

    each : (q x : ℕ) → q < 4 → x ≤ 4 → found x ≡ place_in ps q → found (kept_below k x) ≡ place_in (take k ps) q
    each q x small h is = step ∙ (ap (only_below k) is ∙ sym (place-in-take k ps q))
      where
        below : x < 4 → found (kept_below k x) ≡ only_below k (Some x)
        below less = go (ltb x k)
          where
            go : (t : Bool) → found (cond t x 4) ≡ cond t (Some x) None
            go true = found-some x less
            go false = refl

        above : 4 ≤ x → found (kept_below k x) ≡ None
        above more = go (ltb x k)
          where
            go : (t : Bool) → found (cond t x 4) ≡ None
            go true = found-none x more
            go false = refl

        step : found (kept_below k x) ≡ only_below k (found x)
        step = ⊎_elim (λ (less : x < 4). below less ∙ ap (only_below k) (sym (found-some x less))) (λ (more : 4 ≤ x). above more ∙ ap (only_below k) (sym (found-none x more))) (cases_lt x 4)

moved-none : (x : ℕ) → (x ≡ 0) ⊎ (x ≡ 4) → moved_down x ≡ 4
moved-none x (inl e) = subst (λ (y : ℕ). moved_down y ≡ 4) (sym e) refl
moved-none x (inr e) = subst (λ (y : ℕ). moved_down y ≡ 4) (sym e) refl

moved-some : (j : ℕ) → suc j < 4 → moved_down (suc j) ≡ j
moved-some zero h = refl
moved-some (suc zero) h = refl
moved-some (suc (suc zero)) h = refl
moved-some (suc (suc (suc j))) h = absurd (omega (arith, h))

pub placing-drop : (ps places : List ℕ) → Apart ps → Placing ps places → 0 < length ps → Placing (drop 1 ps) (map moved_down places)
placing-drop [] places a x some = absurd (omega (arith, some))
placing-drop (r ∷ ps) places a x some = mapped (r ∷ ps) places moved_down ps x bound each
  where
    bound : (x : ℕ) → x ≤ 4 → moved_down x ≤ 4
    bound x h = go (eqb x 0 || eqb x 4)
      where
        go : (t : Bool) → cond t 4 (x - 1) ≤ 4
        go true = omega arith
        go false = omega (arith, h)

    each : (q x : ℕ) → q < 4 → x ≤ 4 → found x ≡ place_in (r ∷ ps) q → found (moved_down x) ≡ place_in ps q
    each q x small h is = go (eqb r q) refl (place_in ps q) refl (is ∙ place_in-cons r ps q)
      where
        four : found x ≡ None → x ≡ 4
        four none = ⊎_elim (λ (less : x < 4). absurd (none-some x (sym (found-some x less) ∙ none))) (λ (more : 4 ≤ x). omega (arith, more, h)) (cases_lt x 4)

        is_some : (j : ℕ) → found x ≡ Some j → (x ≡ j) × (x < 4)
        is_some j e = ⊎_elim (λ (less : x < 4). (some-is x j (sym (found-some x less) ∙ e), less)) (λ (more : 4 ≤ x). absurd (none-some j (sym e ∙ found-none x more))) (cases_lt x 4)

        go : (t : Bool) → eqb r q ≡ t → (o : Option ℕ) → place_in ps q ≡ o → found x ≡ cond t (Some 0) (option_map suc o) → found (moved_down x) ≡ place_in ps q
        go true t o o-is e =
            ap found (moved-none x (inl (is_some 0 e).0)) ∙ sym (subst (λ (y : ℕ). place_in ps y ≡ None) (eqb-true r q t) a.1)
        go false t None o-is e = ap found (moved-none x (inr (four e))) ∙ sym o-is
        go false t (Some j) o-is e =
            let y = is_some (suc j) e in
            let less : suc j < 4 = omega (arith, y.0, y.1) in
            ap (λ (z : ℕ). found (moved_down z)) y.0 ∙ (ap found (moved-some j less) ∙ (found-some j (omega (arith, less)) ∙ sym o-is))

-- a row of which one more is changed
pub one-changed : (f : ℕ → ℕ) (init xs : List ℕ) (i x d : ℕ) → xs ≡ map f (take i init) ++ drop i init → i < length init → x ≡ f (get_or xs i d) → set xs i x ≡ map f (take (i + 1) init) ++ drop (i + 1) init
one-changed f init xs i x d is within new =
    rw add-one (ap (λ (l : List ℕ). set l i x) is ∙ go i init within (new ∙ ap (λ (l : List ℕ). f (get_or l i d)) is))
  where
    go : (i : ℕ) (l : List ℕ) → i < length l → x ≡ f (get_or (map f (take i l) ++ drop i l) i d) → set (map f (take i l) ++ drop i l) i x ≡ map f (take (suc i) l) ++ drop (suc i) l
    go i [] h e = absurd (omega (arith, h))
    go zero (a ∷ l) h e = ap (λ (y : ℕ). y ∷ l) e
    go (suc i) (a ∷ l) h e = ap (λ (r : List ℕ). f a ∷ r) (go i l (omega (arith, h)) e)

-- a row of which all are changed
pub all-changed : (f : ℕ → ℕ) (init xs : List ℕ) (i : ℕ) → xs ≡ map f (take i init) ++ drop i init → length init ≤ i → xs ≡ map f init
all-changed f init xs i is h = is ∙ (ap (λ (l : List ℕ). map f l ++ drop i init) (take_all i init h) ∙ (ap (λ (l : List ℕ). map f init ++ l) (drop_all i init h) ∙ append-nil (map f init)))
