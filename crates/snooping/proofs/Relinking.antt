-- Where the lines of an address are linked already, one more line is linked by two pointers: its own, and that of the line before it.
use Rattle.std.proofs.Common.{◌≡◌, ℕ, zero, suc, ◌%◌, ◌<◌, ◌≤◌, Bool, true, false, cond, ◌&&◌, eqb, ◌⊎◌, List, [], ◌∷◌, get_or, drop, Some, None, Option, sym, refl, ap, ◌∙◌, subst, inl, inr, ⊎_elim, arith}
use mathlib.Core.Path.{fun_ext}
use Rattle.std.specs.Option.{option_map}
use Rattle.std.proofs.lemmas.Bool.{eqb-true, eqb-false, eq-eqb, ne_eqb, cases_eq, true≢false}
use Rattle.versions.specs.Orders.{place_in, Apart}
use Rattle.versions.specs.Sharers.{FirstFrom, holds_at, versions_of}
use Rattle.versions.specs.Tables.{Table}
use Rattle.versions.specs.Versions.{is_held}
use Rattle.versions.proofs.Fits.{none-drop}
use Rattle.versions.proofs.Ordering.{none-some, place_in-cons, place-first, place-later}
use Rattle.snooping.specs.declared.line.Line.{Line}
use Rattle.snooping.specs.Grid.{LineTable, Linked, table_by, with_line, holder, linked, relinked}
use Rattle.snooping.specs.Lines.{version_at, with_next}
use Rattle.snooping.proofs.Holders.{holder-same}
use Rattle.snooping.proofs.Linking.{link-same, relinked-table, relinked-other}

-- whether the processor at place i holds a; none is past the last
abbrev pub holds : Table → ℕ → List ℕ → ℕ → Bool
holds table a ps i = holds_at (versions_of table a ps) i

pub holds-at : (t : Table) (a : ℕ) (ps : List ℕ) (i : ℕ) → holds t a ps i ≡ true → is_held (t (get_or ps i 0) a) ≡ true
holds-at t a [] i at = absurd (true≢false (sym at))
holds-at t a (p ∷ ps) zero at = at
holds-at t a (p ∷ ps) (suc i) at = holds-at t a ps i at

-- the first in line, or a later one
place-split : (x : ℕ) (xs : List ℕ) (p k : ℕ) → place_in (x ∷ xs) p ≡ Some k → ((k ≡ 0) × (x ≡ p)) ⊎ ((j : ℕ) × (k ≡ suc j) × (x ≡ p → ⊥) × (place_in xs p ≡ Some j))
place-split x xs p k e = go (eqb x p) refl (sym (place_in-cons x xs p) ∙ e) (place_in xs p) refl
  where
    go : (t : Bool) → eqb x p ≡ t → cond t (Some 0) (option_map suc (place_in xs p)) ≡ Some k → (o : Option ℕ) → place_in xs p ≡ o
        → ((k ≡ 0) × (x ≡ p)) ⊎ ((j : ℕ) × (k ≡ suc j) × (x ≡ p → ⊥) × (place_in xs p ≡ Some j))
    go true s f o i = let zero_is : 0 ≡ k = cc in inl (sym zero_is, eqb-true x p s)
    go false s f None i = let g : None ≡ Some k = sym (ap (option_map suc) i) ∙ f in absurd (none-some k (sym g))
    go false s f (Some j) i = let g : Some (suc j) ≡ Some k = sym (ap (option_map suc) i) ∙ f in let same : suc j ≡ k = cc in inr (j, sym same, eqb-false x p s, i)

later-place-is : (x : ℕ) (xs : List ℕ) (q j : ℕ) → place_in xs x ≡ None → place_in xs q ≡ Some j → place_in (x ∷ xs) q ≡ Some (suc j)
later-place-is x xs q j none e =
    place-later x xs q j (ne_eqb x q (λ s. none-some j (sym e ∙ (sym (ap (place_in xs) s) ∙ none)))) e

pub linked-rest : (x : ℕ) (xs : List ℕ) (a : ℕ) (ls : LineTable) → Apart (x ∷ xs) → Linked (x ∷ xs) a ls → Linked xs a ls
linked-rest x xs a ls apart is q j place held = is q (suc j) (later-place-is x xs q j apart.1 place) held

-- a pointer written again
same-line : (ls : LineTable) (q c : ℕ) (y : Line) → y ≡ ls q c → with_line ls q c y ≡ ls
same-line ls q c y e = fun_ext (λ r. fun_ext (λ d. go r d (eqb r q) (eqb d c) refl refl))
  where
    go : (r d : ℕ) (t u : Bool) → eqb r q ≡ t → eqb d c ≡ u → cond (t && u) y (ls r d) ≡ ls r d
    go r d true true s v = e ∙ (ap (λ (i : ℕ). ls i c) (sym (eqb-true r q s)) ∙ ap (ls r) (sym (eqb-true d c v)))
    go r d true false s v = refl
    go r d false u s v = refl

link-again : (ls : LineTable) (q a : ℕ) (n : Option ℕ) → n ≡ (ls q (a % 16)).next → linked ls q a n ≡ ls
link-again ls q a n e = go (is_held (table_by ls q a))
  where
    go : (t : Bool) → cond t (with_line ls q (a % 16) (with_next (ls q (a % 16)) n)) ls ≡ ls
    go true = same-line ls q (a % 16) (with_next (ls q (a % 16)) n) (ap (with_next (ls q (a % 16))) e)
    go false = refl

pub linked-already : (ps : List ℕ) (a : ℕ) (ls : LineTable) → Apart ps → Linked ps a ls → relinked ps a ls ≡ ls
linked-already [] a ls apart is = refl
linked-already (p ∷ ps) a ls apart is =
    ap (λ (x : LineTable). linked x p a (holder (table_by ls) a ps)) (linked-already ps a ls apart.2 (linked-rest p ps a ls apart is)) ∙ go (is_held (table_by ls p a)) refl
  where
    first : place_in (p ∷ ps) p ≡ Some 0
    first = place-first p ps p (eq-eqb p p refl)

    go : (t : Bool) → is_held (table_by ls p a) ≡ t → linked ls p a (holder (table_by ls) a ps) ≡ ls
    go true h = link-again ls p a (holder (table_by ls) a ps) (sym (is p 0 first h))
    go false h = ap (λ (t : Bool). cond t (with_line ls p (a % 16) (with_next (ls p (a % 16)) (holder (table_by ls) a ps))) ls) h

-- the first holder from a place on, by its place
holder-none-from : (t : Table) (a : ℕ) (ps : List ℕ) (m : ℕ) → ((i : ℕ) → m ≤ i → holds t a ps i ≡ false) → holder t a (drop m ps) ≡ None
holder-none-from t a [] zero none = refl
holder-none-from t a [] (suc m) none = refl
holder-none-from t a (p ∷ ps) zero none =
    ap (λ (u : Bool). cond u (Some p) (holder t a ps)) (none 0 (omega arith)) ∙ holder-none-from t a ps 0 (λ i l. none (suc i) (omega arith))
holder-none-from t a (p ∷ ps) (suc m) none = holder-none-from t a ps m (λ i l. none (suc i) (omega arith))

holder-at-from : (t : Table) (a : ℕ) (ps : List ℕ) (m j : ℕ) → m ≤ j → holds t a ps j ≡ true → ((i : ℕ) → m ≤ i → i < j → holds t a ps i ≡ false) → holder t a (drop m ps) ≡ Some (get_or ps j 0)
holder-at-from t a [] m j le at none = absurd (true≢false (sym at))
holder-at-from t a (p ∷ ps) zero zero le at none = ap (λ (u : Bool). cond u (Some p) (holder t a ps)) at
holder-at-from t a (p ∷ ps) zero (suc j) le at none =
    ap (λ (u : Bool). cond u (Some p) (holder t a ps)) (none 0 (omega arith) (omega arith)) ∙ holder-at-from t a ps 0 j (omega arith) at (λ i l h. none (suc i) (omega arith) (omega arith))
holder-at-from t a (p ∷ ps) (suc m) zero le at none = absurd (omega arith)
holder-at-from t a (p ∷ ps) (suc m) (suc j) le at none = holder-at-from t a ps m j (omega arith) at (λ i l h. none (suc i) (omega arith) (omega arith))

pub holder-from : (t : Table) (a : ℕ) (ps : List ℕ) (m : ℕ) (o : Option ℕ) → FirstFrom (holds_at (versions_of t a ps)) m o → option_map (λ j. get_or ps j 0) o ≡ holder t a (drop m ps)
holder-from t a ps m None first = sym (holder-none-from t a ps m first)
holder-from t a ps m (Some j) first = sym (holder-at-from t a ps m j first.0 first.1 first.2)

-- one line changed to hold a
module _ (ls : LineTable) (p a : ℕ) (y : Line) (held : is_held (version_at y a) ≡ true) where
  abbrev now : LineTable
  now = with_line ls p (a % 16) y

  now-here : now p (a % 16) ≡ y
  now-here = ap (λ (t : Bool). cond (t && eqb (a % 16) (a % 16)) y (ls p (a % 16))) (eq-eqb p p refl) ∙ ap (λ (t : Bool). cond t y (ls p (a % 16))) (eq-eqb (a % 16) (a % 16) refl)

  now-other : (q d : ℕ) → (q ≡ p → ⊥) → now q d ≡ ls q d
  now-other q d ne = ap (λ (t : Bool). cond (t && eqb d (a % 16)) y (ls q d)) (ne_eqb q p ne)

  pub now-held : is_held (table_by now p a) ≡ true
  now-held = ap (λ (x : Line). is_held (version_at x a)) now-here ∙ held

  same-held : (q : ℕ) → (q ≡ p → ⊥) → is_held (table_by now q a) ≡ is_held (table_by ls q a)
  same-held q ne = ap (λ (x : Line). is_held (version_at x a)) (now-other q (a % 16) ne)

  -- p is the first holder now, where none before it holds a; and else the first is the same
  first-is : (ps : List ℕ) (k : ℕ) → place_in ps p ≡ Some k → ((i : ℕ) → i < k → holds (table_by ls) a ps i ≡ false) → holder (table_by now) a ps ≡ Some p
  first-is [] k place none = absurd (none-some k (sym place))
  first-is (x ∷ xs) k place none =
      ⊎_elim
      (λ (e : (k ≡ 0) × (x ≡ p)). ap (λ (t : Bool). cond t (Some x) (holder (table_by now) a xs)) (ap (λ (r : ℕ). is_held (table_by now r a)) e.1 ∙ now-held) ∙ ap Some e.1)
      (λ (e : (j : ℕ) × (k ≡ suc j) × (x ≡ p → ⊥) × (place_in xs p ≡ Some j)).
      ap (λ (t : Bool). cond t (Some x) (holder (table_by now) a xs)) (same-held x e.2 ∙ none 0 (omega (arith, e.1)))
      ∙ first-is xs e.0 e.3 (λ i l. none (suc i) (omega (arith, e.1, l))))
      (place-split x xs p k place)

  first-same : (ps : List ℕ) (k j : ℕ) → place_in ps p ≡ Some k → j < k → holds (table_by ls) a ps j ≡ true → holder (table_by now) a ps ≡ holder (table_by ls) a ps
  first-same [] k j place l at = absurd (none-some k (sym place))
  first-same (x ∷ xs) k j place l at =
      ⊎_elim
      (λ (e : (k ≡ 0) × (x ≡ p)). absurd (omega (arith, e.0)))
      (λ (e : (i : ℕ) × (k ≡ suc i) × (x ≡ p → ⊥) × (place_in xs p ≡ Some i)).
      ap (λ (t : Bool). cond t (Some x) (holder (table_by now) a xs)) (same-held x e.2)
      ∙ go (is_held (table_by ls x a)) refl j at l e.1 (λ h m at. first-same xs e.0 h e.3 m at))
      (place-split x xs p k place)
    where
      go : {i : ℕ} (t : Bool) → is_held (table_by ls x a) ≡ t → (j : ℕ) → holds (table_by ls) a (x ∷ xs) j ≡ true → j < k → k ≡ suc i
          → ((h : ℕ) → h < i → holds (table_by ls) a xs h ≡ true → holder (table_by now) a xs ≡ holder (table_by ls) a xs)
          → cond t (Some x) (holder (table_by now) a xs) ≡ cond t (Some x) (holder (table_by ls) a xs)
      go true s j at l e again = refl
      go false s zero at l e again = absurd (true≢false (sym at ∙ s))
      go false s (suc j) at l e again = again j (omega arith) at

  -- p's own pointer alone
  abbrev pub own_linked : Option ℕ → LineTable
  own_linked n = with_line now p (a % 16) (with_next (now p (a % 16)) n)

  -- and the pointer of q's line to p
  abbrev pub both_linked : ℕ → Option ℕ → LineTable
  both_linked q n = with_line (own_linked n) q (a % 16) (with_next (own_linked n q (a % 16)) (Some p))

  pub own-held : (n : Option ℕ) (q : ℕ) → is_held (table_by ls q a) ≡ true → is_held (table_by (own_linked n) q a) ≡ true
  own-held n q h =
      link-same (λ x. is_held (version_at x a)) (λ x m. refl) now p (a % 16) n q (a % 16)
      ∙ ⊎_elim (λ (e : q ≡ p). ap (λ (r : ℕ). is_held (table_by now r a)) e ∙ now-held) (λ (ne : q ≡ p → ⊥). same-held q ne ∙ h) (cases_eq q p)

  linked-on : (x : ℕ) (xs : List ℕ) (t : Bool) → (x ≡ p → ⊥) → is_held (table_by ls x a) ≡ t
      → relinked (x ∷ xs) a now ≡ cond t (with_line (relinked xs a now) x (a % 16) (with_next (relinked xs a now x (a % 16)) (holder (table_by now) a xs))) (relinked xs a now)
  linked-on x xs t ne e =
      ap (λ (u : Bool). cond u (with_line (relinked xs a now) x (a % 16) (with_next (relinked xs a now x (a % 16)) (holder (table_by now) a xs))) (relinked xs a now))
      (ap (λ (u : Table). is_held (u x a)) (relinked-table xs a now) ∙ (same-held x ne ∙ e))

  -- behind p nothing is another
  rest-same : (xs : List ℕ) → place_in xs p ≡ None → holder (table_by now) a xs ≡ holder (table_by ls) a xs
  rest-same xs none = holder-same (table_by now) (table_by ls) a xs (λ r j e. same-held r (λ s. none-some j (sym e ∙ (ap (place_in xs) s ∙ none))))

  rest-linked : (xs : List ℕ) → place_in xs p ≡ None → Linked xs a ls → Linked xs a now
  rest-linked xs none is q j place h =
      let ne : q ≡ p → ⊥ = λ s. none-some j (sym place ∙ (ap (place_in xs) s ∙ none)) in
      ap (λ (x : Line). x.next) (now-other q (a % 16) ne) ∙ (is q j place (sym (same-held q ne) ∙ h) ∙ sym (rest-same (drop (suc j) xs) (none-drop (suc j) xs p none)))

  own-first : (xs : List ℕ) → Apart (p ∷ xs) → Linked (p ∷ xs) a ls → relinked (p ∷ xs) a now ≡ own_linked (holder (table_by ls) a xs)
  own-first xs apart is =
      ap (λ (x : LineTable). linked x p a (holder (table_by now) a xs)) (linked-already xs a now apart.2 (rest-linked xs apart.1 (linked-rest p xs a ls apart is)))
      ∙ (ap (linked now p a) (rest-same xs apart.1)
      ∙ ap (λ (t : Bool). cond t (with_line now p (a % 16) (with_next (now p (a % 16)) (holder (table_by ls) a xs))) now) now-held)

  -- p's line is the first: only its own pointer changes
  pub link-first : (ps : List ℕ) (k : ℕ) → Apart ps → Linked ps a ls → place_in ps p ≡ Some k → ((i : ℕ) → i < k → holds (table_by ls) a ps i ≡ false)
      → relinked ps a now ≡ own_linked (holder (table_by ls) a (drop (suc k) ps))
  link-first [] k apart is place none = absurd (none-some k (sym place))
  link-first (x ∷ xs) k apart is place none =
      ⊎_elim
      (λ (e : (k ≡ 0) × (x ≡ p)).
      subst (λ (r : ℕ). Apart (r ∷ xs) → Linked (r ∷ xs) a ls → relinked (r ∷ xs) a now ≡ own_linked (holder (table_by ls) a (drop k xs))) (sym e.1)
      (λ front links. own-first xs front links ∙ ap (λ (m : ℕ). own_linked (holder (table_by ls) a (drop m xs))) (sym e.0)) apart is)
      (λ (e : (j : ℕ) × (k ≡ suc j) × (x ≡ p → ⊥) × (place_in xs p ≡ Some j)).
      linked-on x xs false e.2 (none 0 (omega (arith, e.1)))
      ∙ (link-first xs e.0 apart.2 (linked-rest x xs a ls apart is) e.3 (λ i l. none (suc i) (omega (arith, e.1, l)))
      ∙ ap (λ (m : ℕ). own_linked (holder (table_by ls) a (drop m xs))) (sym e.1)))
      (place-split x xs p k place)

  -- the line at place j is the last before it: that one points to p now
  pub link-after : (ps : List ℕ) (k j : ℕ) → Apart ps → Linked ps a ls → place_in ps p ≡ Some k → j < k → holds (table_by ls) a ps j ≡ true → ((i : ℕ) → j < i → i < k → holds (table_by ls) a ps i ≡ false)
      → relinked ps a now ≡ both_linked (get_or ps j 0) (holder (table_by ls) a (drop (suc k) ps))
  link-after [] k j apart is place l at none = absurd (none-some k (sym place))
  link-after (x ∷ xs) k j apart is place l at none =
      ⊎_elim
      (λ (e : (k ≡ 0) × (x ≡ p)). absurd (omega (arith, e.0)))
      (λ (e : (i : ℕ) × (k ≡ suc i) × (x ≡ p → ⊥) × (place_in xs p ≡ Some i)).
      go e.0 e.2 e.3 j (omega (arith, e.1)) at (λ i m n. none i m (omega (arith, e.1, n))) (λ h m at none. link-after xs e.0 h apart.2 (linked-rest x xs a ls apart is) e.3 m at none)
      ∙ ap (λ (m : ℕ). both_linked (get_or (x ∷ xs) j 0) (holder (table_by ls) a (drop m xs))) (sym e.1))
      (place-split x xs p k place)
    where
      first : place_in (x ∷ xs) x ≡ Some 0
      first = place-first x xs x (eq-eqb x x refl)

      go : (k : ℕ) → (x ≡ p → ⊥) → place_in xs p ≡ Some k → (j : ℕ) → j < suc k → holds (table_by ls) a (x ∷ xs) j ≡ true → ((i : ℕ) → j < i → i < suc k → holds (table_by ls) a (x ∷ xs) i ≡ false)
          → ((h : ℕ) → h < k → holds (table_by ls) a xs h ≡ true → ((i : ℕ) → h < i → i < k → holds (table_by ls) a xs i ≡ false)
          → relinked xs a now ≡ both_linked (get_or xs h 0) (holder (table_by ls) a (drop (suc k) xs)))
          → relinked (x ∷ xs) a now ≡ both_linked (get_or (x ∷ xs) j 0) (holder (table_by ls) a (drop (suc k) xs))
      go k ne place zero l at none again =
          linked-on x xs true ne at
          ∙ (ap (λ (n : Option ℕ). with_line (relinked xs a now) x (a % 16) (with_next (relinked xs a now x (a % 16)) n)) (first-is xs k place (λ i m. none (suc i) (omega arith) (omega arith)))
          ∙ ap (λ (r : LineTable). with_line r x (a % 16) (with_next (r x (a % 16)) (Some p))) (link-first xs k apart.2 (linked-rest x xs a ls apart is) place (λ i m. none (suc i) (omega arith) (omega arith))))
      go k ne place (suc j) l at none again = side (is_held (table_by ls x a)) refl ∙ again j (omega arith) at (λ i m n. none (suc i) (omega arith) (omega arith))
        where
          side : (t : Bool) → is_held (table_by ls x a) ≡ t → relinked (x ∷ xs) a now ≡ relinked xs a now
          side false h = linked-on x xs false ne h
          side true h =
              linked-on x xs true ne h
              ∙ same-line (relinked xs a now) x (a % 16) (with_next (relinked xs a now x (a % 16)) (holder (table_by now) a xs))
              (ap (with_next (relinked xs a now x (a % 16)))
              (first-same xs k j place (omega arith) at
              ∙ (sym (is x 0 first h) ∙ ap (λ (y : Line). y.next) (sym (relinked-other xs a now x (a % 16) apart.1 ∙ now-other x (a % 16) ne)))))
