-- The first of some processors that holds an address, and columns of versions that agree.
use Rattle.std.proofs.Common.{◌≡◌, ℕ, zero, suc, ◌-◌, ◌<◌, Bool, true, false, cond, eqb, List, [], ◌∷◌, ◌++◌, map, length, get_or, take, is_some, Some, None, Option, unwrap_or, sym, refl, ap, ◌∙◌, subst, arith}
use Rattle.std.specs.Option.{option_map, option_or}
use Rattle.std.proofs.lemmas.Bool.{eqb-true, eq-eqb, true≢false}
use Rattle.versions.specs.declared.version.Version.{Version}
use Rattle.versions.specs.Orders.{place_in}
use Rattle.versions.specs.Tables.{Table}
use Rattle.versions.specs.Versions.{is_held, is_own, laid_over, seen_by, squashed_by}
use Rattle.versions.proofs.Ordering.{place_in-cons, place-first, place-later}
use Rattle.snooping.specs.Grid.{holder}

-- the first in line is at place 0, and the others one place further than in the rest
pub first-place : (q : ℕ) (qs : List ℕ) → place_in (q ∷ qs) q ≡ Some 0
first-place q qs = place-first q qs q (eq-eqb q q refl)

pub later-place : (q : ℕ) (qs : List ℕ) (r j : ℕ) → place_in qs r ≡ Some j → (k : ℕ) × (place_in (q ∷ qs) r ≡ Some k)
later-place q qs r j e = go (eqb q r) refl
  where
    go : (t : Bool) → eqb q r ≡ t → (k : ℕ) × (place_in (q ∷ qs) r ≡ Some k)
    go true s = (0, place-first q qs r s)
    go false s = (suc j, place-later q qs r j s e)

pub same-column : (f g : ℕ → Version) (qs : List ℕ) → ((r j : ℕ) → place_in qs r ≡ Some j → f r ≡ g r) → map f qs ≡ map g qs
same-column f g [] agree = refl
same-column f g (q ∷ qs) agree =
    ap (λ (v : Version). v ∷ map f qs) (agree q 0 (first-place q qs))
    ∙ ap (λ (l : List Version). g q ∷ l) (same-column f g qs (λ r j e. let x = later-place q qs r j e in agree r x.0 x.1))

pub holder-same : (s t : Table) (b : ℕ) (qs : List ℕ) → ((r j : ℕ) → place_in qs r ≡ Some j → is_held (s r b) ≡ is_held (t r b)) → holder s b qs ≡ holder t b qs
holder-same s t b [] agree = refl
holder-same s t b (q ∷ qs) agree =
    ap (λ (u : Bool). cond u (Some q) (holder s b qs)) (agree q 0 (first-place q qs))
    ∙ ap (λ (o : Option ℕ). cond (is_held (t q b)) (Some q) o) (holder-same s t b qs (λ r j e. let x = later-place q qs r j e in agree r x.0 x.1))

pub holder-append : (t : Table) (b : ℕ) (xs ys : List ℕ) → holder t b (xs ++ ys) ≡ option_or (holder t b xs) (holder t b ys)
holder-append t b [] ys = refl
holder-append t b (x ∷ xs) ys = go (is_held (t x b)) (holder-append t b xs ys)
  where
    go : (u : Bool) → holder t b (xs ++ ys) ≡ option_or (holder t b xs) (holder t b ys) → cond u (Some x) (holder t b (xs ++ ys)) ≡ option_or (cond u (Some x) (holder t b xs)) (holder t b ys)
    go true e = refl
    go false e = e

-- who is found is among them, and holds
pub holder-found : (t : Table) (b : ℕ) (qs : List ℕ) (r : ℕ) → holder t b qs ≡ Some r → (is_some (place_in qs r) ≡ true) × (is_held (t r b) ≡ true)
holder-found t b [] r e = let z : ◌≡◌ {A = ℕ} 0 1 = cc in absurd (omega arith)
holder-found t b (q ∷ qs) r e = go (is_held (t q b)) refl e (λ f. holder-found t b qs r f)
  where
    more : (u : Bool) (o : Option ℕ) → is_some o ≡ true → is_some (cond u (Some 0) (option_map suc o)) ≡ true
    more true o x = refl
    more false None x = x
    more false (Some k) x = refl

    go : (u : Bool) → is_held (t q b) ≡ u → cond u (Some q) (holder t b qs) ≡ Some r → (holder t b qs ≡ Some r → (is_some (place_in qs r) ≡ true) × (is_held (t r b) ≡ true))
        → (is_some (place_in (q ∷ qs) r) ≡ true) × (is_held (t r b) ≡ true)
    go true h f again =
        let same : q ≡ r = cc in
        (subst (λ (x : ℕ). is_some (place_in (q ∷ qs) x) ≡ true) same (ap is_some (first-place q qs)), ap (λ (x : ℕ). is_held (t x b)) (sym same) ∙ h)
    go false h f again = (ap is_some (place_in-cons q qs r) ∙ more (eqb q r) (place_in qs r) (again f).0, (again f).1)

pub holder-none : (t : Table) (b : ℕ) (qs : List ℕ) → holder t b qs ≡ None → (r j : ℕ) → place_in qs r ≡ Some j → is_held (t r b) ≡ false
holder-none t b [] e r j p = let z : ◌≡◌ {A = ℕ} 0 1 = cc in absurd (omega arith)
holder-none t b (q ∷ qs) e r j p =
    go (is_held (t q b)) refl e (eqb q r) refl (sym (place_in-cons q qs r) ∙ p) (place_in qs r) refl (λ f i m. holder-none t b qs f r i m)
  where
    go : (u : Bool) → is_held (t q b) ≡ u → cond u (Some q) (holder t b qs) ≡ None → (w : Bool) → eqb q r ≡ w → cond w (Some 0) (option_map suc (place_in qs r)) ≡ Some j
        → (o : Option ℕ) → place_in qs r ≡ o → (holder t b qs ≡ None → (i : ℕ) → place_in qs r ≡ Some i → is_held (t r b) ≡ false) → is_held (t r b) ≡ false
    go true h f w x m o l again = let z : ◌≡◌ {A = ℕ} 0 1 = cc in absurd (omega arith)
    go false h f true x m o l again = ap (λ (y : ℕ). is_held (t y b)) (sym (eqb-true q r x)) ∙ h
    go false h f false x m None l again = let g : None ≡ Some j = sym (ap (option_map suc) l) ∙ m in let z : ◌≡◌ {A = ℕ} 0 1 = cc in absurd (omega arith)
    go false h f false x m (Some i) l again = again f i l

-- a place in a front is the place in the whole
pub take-place : (m : ℕ) (ps : List ℕ) (q k : ℕ) → place_in (take m ps) q ≡ Some k → (place_in ps q ≡ Some k) × (k < m)
take-place zero ps q k e = let z : ◌≡◌ {A = ℕ} 0 1 = cc in absurd (omega arith)
take-place (suc m) [] q k e = let z : ◌≡◌ {A = ℕ} 0 1 = cc in absurd (omega arith)
take-place (suc m) (p ∷ ps) q k e =
    let x = go (eqb p q) refl (sym (place_in-cons p (take m ps) q) ∙ e) (place_in (take m ps) q) refl (λ j i. take-place m ps q j i) in
    (place_in-cons p ps q ∙ x.0, x.1)
  where
    go : (t : Bool) → eqb p q ≡ t → cond t (Some 0) (option_map suc (place_in (take m ps) q)) ≡ Some k → (o : Option ℕ) → place_in (take m ps) q ≡ o
        → ((j : ℕ) → place_in (take m ps) q ≡ Some j → (place_in ps q ≡ Some j) × (j < m)) → (cond t (Some 0) (option_map suc (place_in ps q)) ≡ Some k) × (k < suc m)
    go true s e o i again = let zero_is : 0 ≡ k = cc in (e, omega (arith, zero_is))
    go false s e None i again = let f : None ≡ Some k = sym (ap (option_map suc) i) ∙ e in let z : ◌≡◌ {A = ℕ} 0 1 = cc in absurd (omega arith)
    go false s e (Some j) i again =
        let f : Some (suc j) ≡ Some k = sym (ap (option_map suc) i) ∙ e in
        let same : suc j ≡ k = cc in
        let x = again j i in
        (ap (option_map suc) x.0 ∙ f, omega (arith, x.1, same))

pub place-once : (ps : List ℕ) (q j k : ℕ) → place_in ps q ≡ Some j → place_in ps q ≡ Some k → j ≡ k
place-once ps q j k e f = let g : Some j ≡ Some k = sym e ∙ f in cc

-- what a task sees goes on from what the tasks before it see
pub seen-append : (xs ys : List Version) (w : ℕ) → seen_by (xs ++ ys) w ≡ seen_by ys (seen_by xs w)
seen-append [] ys w = refl
seen-append (x ∷ xs) ys w = seen-append xs ys (laid_over x w)

-- only own words count
pub seen-owns : (f g : ℕ → Version) (qs : List ℕ) (w : ℕ) → ((r j : ℕ) → place_in qs r ≡ Some j → (f r).own ≡ (g r).own) → seen_by (map f qs) w ≡ seen_by (map g qs) w
seen-owns f g [] w agree = refl
seen-owns f g (q ∷ qs) w agree =
    ap (λ (o : Option ℕ). seen_by (map f qs) (unwrap_or o w)) (agree q 0 (first-place q qs))
    ∙ seen-owns f g qs (laid_over (g q) w) (λ r j e. let x = later-place q qs r j e in agree r x.0 x.1)

-- a later task with a mark that a store does not squash sees a word of its own side of the store
pub hidden-copy : (vs : List Version) (j : ℕ) (d : Version) → j < length vs - squashed_by vs → (get_or vs j d).mark ≡ true → (w v : ℕ) → seen_by (take j vs) w ≡ seen_by (take j vs) v
hidden-copy [] j d h m w v = absurd (omega arith)
hidden-copy (x ∷ vs) j d h m w v = go j x.mark refl h m x.own refl (λ i l n a b. hidden-copy vs i d l n a b)
  where
    go : (j : ℕ) (t : Bool) → x.mark ≡ t → j < suc (length vs) - cond t (suc (length vs)) (cond (is_own x) 0 (squashed_by vs)) → (get_or (x ∷ vs) j d).mark ≡ true → (o : Option ℕ) → x.own ≡ o
        → ((i : ℕ) → i < length vs - squashed_by vs → (get_or vs i d).mark ≡ true → (a b : ℕ) → seen_by (take i vs) a ≡ seen_by (take i vs) b) → seen_by (take j (x ∷ vs)) w ≡ seen_by (take j (x ∷ vs)) v
    go j true s l n o e again = absurd (omega arith)
    go zero false s l n o e again = absurd (true≢false (sym n ∙ s))
    go (suc i) false s l n (Some y) e again = ap (λ (z : Option ℕ). seen_by (take i vs) (unwrap_or z w)) e ∙ sym (ap (λ (z : Option ℕ). seen_by (take i vs) (unwrap_or z v)) e)
    go (suc i) false s l n None e again =
        let less : suc i < suc (length vs) - squashed_by vs = subst (λ (u : Bool). suc i < suc (length vs) - cond u 0 (squashed_by vs)) (ap is_some e) l in
        again i (omega arith) n (laid_over x w) (laid_over x v)

pub place-value : (ps : List ℕ) (q k : ℕ) → place_in ps q ≡ Some k → get_or ps k 0 ≡ q
place-value [] q k e = let z : ◌≡◌ {A = ℕ} 0 1 = cc in absurd (omega arith)
place-value (p ∷ ps) q k e = go (eqb p q) refl (sym (place_in-cons p ps q) ∙ e) (place_in ps q) refl (λ j i. place-value ps q j i)
  where
    go : (t : Bool) → eqb p q ≡ t → cond t (Some 0) (option_map suc (place_in ps q)) ≡ Some k → (o : Option ℕ) → place_in ps q ≡ o → ((j : ℕ) → place_in ps q ≡ Some j → get_or ps j 0 ≡ q) → get_or (p ∷ ps) k 0 ≡ q
    go true s e o i again = let zero_is : 0 ≡ k = cc in ap (λ (j : ℕ). get_or (p ∷ ps) j 0) (sym zero_is) ∙ eqb-true p q s
    go false s e None i again = let f : None ≡ Some k = sym (ap (option_map suc) i) ∙ e in let z : ◌≡◌ {A = ℕ} 0 1 = cc in absurd (omega arith)
    go false s e (Some j) i again =
        let f : Some (suc j) ≡ Some k = sym (ap (option_map suc) i) ∙ e in
        let same : suc j ≡ k = cc in
        ap (λ (m : ℕ). get_or (p ∷ ps) m 0) (sym same) ∙ again j i

-- one place, one processor
pub same_place : (ps : List ℕ) (q r k : ℕ) → place_in ps q ≡ Some k → place_in ps r ≡ Some k → q ≡ r
same_place ps q r k e f = sym (place-value ps q k e) ∙ place-value ps r k f
