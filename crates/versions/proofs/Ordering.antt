-- Laws of the order of the active tasks: the place of a processor in it, and that no processor is in it twice.
use Rattle.std.proofs.Common.{◌≡◌, ℕ, zero, suc, ◌+◌, ◌<◌, ◌≤◌, Bool, true, false, cond, not, eqb, ltb, List, [], ◌∷◌, ◌++◌, length, get_or, take, drop, Some, None, Option, sym, refl, ap, ◌∙◌, ⊎_elim, arith}
use Rattle.std.specs.List.{position_or_len}
use Rattle.std.specs.Option.{option_map}
use Rattle.std.proofs.lemmas.Bool.{ne_eqb, eqb-false, cond-true, cond-false, lt-ltb, le-ltb, cases_lt}
use Rattle.versions.specs.Orders.{place_in, Apart}

pub none-some : {A : Type 0} (x : A) → Some x ≡ None → ⊥
none-some x e = let z : ◌≡◌ {A = ℕ} 0 1 = cc in omega arith

-- the place in a list by that in its rest
pub place_in-cons : (q : ℕ) (qs : List ℕ) (p : ℕ) → place_in (q ∷ qs) p ≡ cond (eqb q p) (Some 0) (option_map suc (place_in qs p))
place_in-cons q qs p = go (eqb q p)
  where
    n : ℕ
    n = position_or_len (λ r. eqb r p) qs

    go : (t : Bool) → cond (ltb (cond (not t) (1 + n) 0) (suc (length qs))) (Some (cond (not t) (1 + n) 0)) None
        ≡ cond t (Some 0) (option_map suc (cond (ltb n (length qs)) (Some n) None))
    go true = cond-true (ltb 0 (suc (length qs))) (Some 0) None (lt-ltb 0 (suc (length qs)) (omega arith))
    go false =
        ⊎_elim
        (λ (h : n < length qs). cond-true (ltb (1 + n) (suc (length qs))) (Some (1 + n)) None (lt-ltb (1 + n) (suc (length qs)) (omega (arith, h)))
        ∙ (ap Some (omega arith) ∙ ap (option_map suc) (sym (cond-true (ltb n (length qs)) (Some n) None (lt-ltb n (length qs) h)))))
        (λ (h : length qs ≤ n). cond-false (ltb (1 + n) (suc (length qs))) (Some (1 + n)) None (le-ltb (1 + n) (suc (length qs)) (omega (arith, h)))
        ∙ ap (option_map suc) (sym (cond-false (ltb n (length qs)) (Some n) None (le-ltb n (length qs) h))))
        (cases_lt n (length qs))

pub place-first : (q : ℕ) (qs : List ℕ) (p : ℕ) → eqb q p ≡ true → place_in (q ∷ qs) p ≡ Some 0
place-first q qs p h = place_in-cons q qs p ∙ rw h

pub place-later : (q : ℕ) (qs : List ℕ) (p j : ℕ) → eqb q p ≡ false → place_in qs p ≡ Some j → place_in (q ∷ qs) p ≡ Some (suc j)
place-later q qs p j h e = place_in-cons q qs p ∙ rw h (ap (option_map suc) e)

mapped-none : (o : Option ℕ) → option_map suc o ≡ None → o ≡ None
mapped-none None e = refl
mapped-none (Some n) e = absurd (none-some (suc n) e)

-- p is not in a list: it is not the first, and not in the rest
pub place_none : (q : ℕ) (qs : List ℕ) (p : ℕ) → place_in (q ∷ qs) p ≡ None → (eqb q p ≡ false) × (place_in qs p ≡ None)
place_none q qs p e = go (eqb q p) (sym (place_in-cons q qs p) ∙ e)
  where
    go : (t : Bool) → cond t (Some 0) (option_map suc (place_in qs p)) ≡ None → (t ≡ false) × (place_in qs p ≡ None)
    go true e = absurd (none-some 0 e)
    go false e = (refl, mapped-none (place_in qs p) e)

pub place-none-cons : (q : ℕ) (qs : List ℕ) (p : ℕ) → eqb q p ≡ false → place_in qs p ≡ None → place_in (q ∷ qs) p ≡ None
place-none-cons q qs p other none = place_in-cons q qs p ∙ rw other (ap (option_map suc) none)

pub place-none-push : (qs : List ℕ) (q p : ℕ) → place_in qs p ≡ None → eqb q p ≡ false → place_in (qs ++ q ∷ []) p ≡ None
place-none-push [] q p none other = place-none-cons q [] p other refl
place-none-push (r ∷ qs) q p none other =
    let n = place_none r qs p none in
    place-none-cons r (qs ++ q ∷ []) p n.0 (place-none-push qs q p n.1 other)

pub place-none-take : (k : ℕ) (qs : List ℕ) (p : ℕ) → place_in qs p ≡ None → place_in (take k qs) p ≡ None
place-none-take zero qs p none = refl
place-none-take (suc k) [] p none = refl
place-none-take (suc k) (q ∷ qs) p none =
    let n = place_none q qs p none in
    place-none-cons q (take k qs) p n.0 (place-none-take k qs p n.1)

eqb-sym : (a b : ℕ) → eqb a b ≡ false → eqb b a ≡ false
eqb-sym a b e = ne_eqb b a (λ s. eqb-false a b e (sym s))

pub apart-push : (qs : List ℕ) (p : ℕ) → Apart qs → p < 4 → place_in qs p ≡ None → Apart (qs ++ p ∷ [])
apart-push [] p a l none = (l, refl, tt)
apart-push (q ∷ qs) p a l none =
    let n = place_none q qs p none in
    (a.0, place-none-push qs p q a.1 (eqb-sym q p n.0), apart-push qs p a.2 l n.1)

pub apart-take : (k : ℕ) (qs : List ℕ) → Apart qs → Apart (take k qs)
apart-take zero qs a = tt
apart-take (suc k) [] a = tt
apart-take (suc k) (q ∷ qs) a = (a.0, place-none-take k qs q a.1, apart-take k qs a.2)

pub apart-drop : (qs : List ℕ) → Apart qs → Apart (drop 1 qs)
apart-drop [] a = tt
apart-drop (q ∷ qs) a = a.2

-- the place of p after one more is looked at
pub place-other : (qs : List ℕ) (q p : ℕ) → eqb q p ≡ false → place_in (qs ++ q ∷ []) p ≡ place_in qs p
place-other [] q p other = place-none-cons q [] p other refl
place-other (r ∷ qs) q p other =
    place_in-cons r (qs ++ q ∷ []) p
    ∙ (ap (λ (o : Option ℕ). cond (eqb r p) (Some 0) (option_map suc o)) (place-other qs q p other) ∙ sym (place_in-cons r qs p))

pub place-found : (qs : List ℕ) (q p : ℕ) → place_in qs p ≡ None → eqb q p ≡ true → place_in (qs ++ q ∷ []) p ≡ Some (length qs)
place-found [] q p none same = place-first q [] p same
place-found (r ∷ qs) q p none same =
    let n = place_none r qs p none in
    place-later r (qs ++ q ∷ []) p (length qs) n.0 (place-found qs q p n.1 same)

differs : (a b : ℕ) → eqb a b ≡ false → a ≡ b → ⊥
differs a b e = eqb-false a b e

-- with p not among them there are fewer than four
pub room_for : (qs : List ℕ) (p : ℕ) → Apart qs → p < 4 → place_in qs p ≡ None → length qs ≤ 4 → length qs < 4
room_for [] p a l none h = omega arith
room_for (a ∷ []) p x l none h = omega arith
room_for (a ∷ b ∷ []) p x l none h = omega arith
room_for (a ∷ b ∷ c ∷ []) p x l none h = omega arith
room_for (a ∷ b ∷ c ∷ d ∷ []) p x l none h =
    let n1 = place_none a (b ∷ c ∷ d ∷ []) p none in
    let n2 = place_none b (c ∷ d ∷ []) p n1.1 in
    let n3 = place_none c (d ∷ []) p n2.1 in
    let n4 = place_none d [] p n3.1 in
    let ab = place_none b (c ∷ d ∷ []) a x.1 in
    let ac = place_none c (d ∷ []) a ab.1 in
    let ad = place_none d [] a ac.1 in
    let bc = place_none c (d ∷ []) b x.2.1 in
    let bd = place_none d [] b bc.1 in
    let cd = place_none d [] c x.2.2.1 in
    absurd (omega (
      arith,
      differs a p n1.0,
      differs b p n2.0,
      differs c p n3.0,
      differs d p n4.0,
      differs b a ab.0,
      differs c a ac.0,
      differs d a ad.0,
      differs c b bc.0,
      differs d b bd.0,
      differs d c cd.0,
      x.0,
      x.2.0,
      x.2.2.0,
      x.2.2.2.0,
    ))
room_for (a ∷ b ∷ c ∷ d ∷ e ∷ qs) p x l none h = absurd (omega arith)

-- each of them is a processor
pub apart_below : (qs : List ℕ) (k : ℕ) → Apart qs → k < length qs → get_or qs k 0 < 4
apart_below [] k a h = absurd (omega arith)
apart_below (q ∷ qs) zero a h = a.0
apart_below (q ∷ qs) (suc k) a h = apart_below qs k a.2 (omega arith)

-- there are at most four
pub few : (qs : List ℕ) → Apart qs → length qs ≤ 4
few [] a = omega arith
few (q ∷ qs) a = omega (arith, room_for qs q a.2 a.0 a.1 (few qs a.2))
