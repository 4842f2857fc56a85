-- A table keeps fitting its order of processors through every change that a turn makes.
use Rattle.std.proofs.Common.{◌≡◌, ℕ, zero, suc, ◌%◌, ◌<◌, Bool, true, false, cond, ◌&&◌, eqb, ◌⊎◌, List, [], ◌∷◌, ◌++◌, take, drop, is_some, Some, None, Option, sym, refl, ap, ◌∙◌, subst, inl, inr, ⊎_elim, arith}
use Rattle.std.specs.Option.{option_map}
use Rattle.std.proofs.lemmas.Bool.{eq-eqb, ne_eqb, eqb-true, eqb-false, true≢false}
use Rattle.versions.specs.declared.version.Version.{Version}
use Rattle.versions.specs.Orders.{place_in, Apart}
use Rattle.versions.specs.Versions.{no_version, is_held}
use Rattle.versions.specs.Tables.{Table, empty_table, plain_of, with_version, without, without_all, Fitting}
use Rattle.versions.proofs.Ordering.{place_none, place-none-cons, none-some, place_in-cons}
use Rattle.versions.proofs.Tabling.{tasks-agree, none-past, place-take}

pub fitting-empty : (n : ℕ) → Fitting n [] empty_table
fitting-empty n = record {
  idle = λ q e b. refl;
  inside = λ q b h. absurd (true≢false (sym h));
  one = λ q b c h i e. absurd (true≢false (sym h));
}

-- a start
front-none : (ps : List ℕ) (p q : ℕ) → place_in (ps ++ p ∷ []) q ≡ None → place_in ps q ≡ None
front-none [] p q e = refl
front-none (r ∷ ps) p q e = let n = place_none r (ps ++ p ∷ []) q e in place-none-cons r ps q n.0 (front-none ps p q n.1)

pub fitting-start : (n : ℕ) (ps : List ℕ) (table : Table) (p : ℕ) → Fitting n ps table → Fitting n (ps ++ p ∷ []) table
fitting-start n ps table p x = record { idle = λ q e. x.idle q (front-none ps p q e); inside = x.inside; one = x.one }

-- p's version at a, changed
active-none : (ps : List ℕ) (p k q : ℕ) → place_in ps p ≡ Some k → place_in ps q ≡ None → eqb q p ≡ false
active-none ps p k q some none = ne_eqb q p (λ e. none-some k (sym some ∙ subst (λ (r : ℕ). place_in ps r ≡ None) e none))

held_with : (table : Table) (p a : ℕ) (v : Version) (q b : ℕ) → is_held (with_version table p a v q b) ≡ true → ((q ≡ p) × (a ≡ b)) ⊎ (is_held (table q b) ≡ true)
held_with table p a v q b h = go (eqb q p) refl (eqb a b) refl h
  where
    go : (t : Bool) → eqb q p ≡ t → (u : Bool) → eqb a b ≡ u → is_held (cond (t && u) v (table q b)) ≡ true → ((q ≡ p) × (a ≡ b)) ⊎ (is_held (table q b) ≡ true)
    go true x true y h = inl (eqb-true q p x, eqb-true a b y)
    go true x false y h = inr h
    go false x u y h = inr h

pub fitting-put : (n : ℕ) (ps : List ℕ) (table : Table) (p k a : ℕ) (v : Version) → Fitting n ps table → place_in ps p ≡ Some k → a < n
    → ((b : ℕ) → is_held (table p b) ≡ true → b % 16 ≡ a % 16 → b ≡ a) → Fitting n ps (with_version table p a v)
fitting-put n ps table p k a v x place l class = record {
  idle = λ q e b. rw (active-none ps p k q place e) (x.idle q e b);
  inside = λ q b h. ⊎_elim (λ (s : (q ≡ p) × (a ≡ b)). subst (λ (c : ℕ). c < n) s.1 l) (λ (g : is_held (table q b) ≡ true). x.inside q b g) (held_with table p a v q b h);
  one = λ q b c h i e.
      ⊎_elim
      (λ (s : (q ≡ p) × (a ≡ b)).
      ⊎_elim
      (λ (r : (q ≡ p) × (a ≡ c)). sym s.1 ∙ r.1)
      (λ (g : is_held (table q c) ≡ true). sym s.1 ∙ sym (class c (subst (λ (y : ℕ). is_held (table y c) ≡ true) s.0 g) (sym e ∙ ap (λ (y : ℕ). y % 16) (sym s.1))))
      (held_with table p a v q c i))
      (λ (f : is_held (table q b) ≡ true).
      ⊎_elim
      (λ (r : (q ≡ p) × (a ≡ c)). class b (subst (λ (y : ℕ). is_held (table y b) ≡ true) r.0 f) (e ∙ ap (λ (y : ℕ). y % 16) (sym r.1)) ∙ r.1)
      (λ (g : is_held (table q c) ≡ true). x.one q b c f g e)
      (held_with table p a v q c i))
      (held_with table p a v q b h);
}

-- versions of some processors dropped
pub without_all-value : (table : Table) (qs : List ℕ) (r b : ℕ) → without_all table qs r b ≡ cond (is_some (place_in qs r)) no_version (table r b)
without_all-value table [] r b = refl
without_all-value table (q ∷ qs) r b =
    without_all-value (without table q) qs r b
    ∙ (go (eqb q r) refl (place_in qs r) ∙ ap (λ (o : Option ℕ). cond (is_some o) no_version (table r b)) (sym (place_in-cons q qs r)))
  where
    go : (t : Bool) → eqb q r ≡ t → (o : Option ℕ) → cond (is_some o) no_version (cond (eqb r q) no_version (table r b)) ≡ cond (is_some (cond t (Some 0) (option_map suc o))) no_version (table r b)
    go true h None = rw (eq-eqb r q (sym (eqb-true q r h)))
    go true h (Some j) = refl
    go false h None = rw (ne_eqb r q (λ e. eqb-false q r h (sym e)))
    go false h (Some j) = refl

-- none of these processors is in the list
abbrev AllOut : List ℕ → List ℕ → Type 0
AllOut xs [] = Unit {0}
AllOut xs (q ∷ qs) = (place_in xs q ≡ None) × AllOut xs qs

all_out-nil : (qs : List ℕ) → AllOut [] qs
all_out-nil [] = tt
all_out-nil (q ∷ qs) = (refl, all_out-nil qs)

all_out-cons : (r : ℕ) (xs qs : List ℕ) → place_in qs r ≡ None → AllOut xs qs → AllOut (r ∷ xs) qs
all_out-cons r xs [] none o = tt
all_out-cons r xs (q ∷ qs) none o =
    let n = place_none q qs r none in
    (place-none-cons r xs q (ne_eqb r q (λ e. eqb-false q r n.0 (sym e))) o.0, all_out-cons r xs qs n.1 o.1)

pub none-drop : (m : ℕ) (ps : List ℕ) (r : ℕ) → place_in ps r ≡ None → place_in (drop m ps) r ≡ None
none-drop zero ps r e = e
none-drop (suc m) [] r e = refl
none-drop (suc m) (p ∷ ps) r e = none-drop m ps r (place_none p ps r e).1

parts_out : (m : ℕ) (ps : List ℕ) → Apart ps → AllOut (take m ps) (drop m ps)
parts_out zero ps a = all_out-nil ps
parts_out (suc m) [] a = tt
parts_out (suc m) (p ∷ ps) a = all_out-cons p (take m ps) (drop m ps) (none-drop m ps p a.1) (parts_out m ps a.2)

without_other : (table : Table) (p q b : ℕ) → eqb q p ≡ false → without table p q b ≡ table q b
without_other table p q b e = rw e

plain-without : (ws xs : List ℕ) (table : Table) (qs : List ℕ) → AllOut xs qs → plain_of ws xs (without_all table qs) ≡ plain_of ws xs table
plain-without ws xs table [] o = refl
plain-without ws xs table (q ∷ qs) o =
    plain-without ws xs (without table q) qs o.1
    ∙ ap (λ l. record { memory = ws; order = l }) (tasks-agree (without table q) table xs q o.0 (without_other table q))

-- the tasks from place m on are cut off
pub plain-cut : (ws ps : List ℕ) (table : Table) (m : ℕ) → Apart ps → plain_of ws (take m ps) (without_all table (drop m ps)) ≡ plain_of ws (take m ps) table
plain-cut ws ps table m a = plain-without ws (take m ps) table (drop m ps) (parts_out m ps a)

-- who is in the front is not in the rest
out_of : (xs qs : List ℕ) (q j : ℕ) → AllOut xs qs → place_in xs q ≡ Some j → place_in qs q ≡ None
out_of xs [] q j o e = refl
out_of xs (r ∷ qs) q j o e =
    place-none-cons r qs q (ne_eqb r q (λ s. none-some j (sym e ∙ subst (λ (y : ℕ). place_in xs y ≡ None) s o.0))) (out_of xs qs q j o.1 e)

pub front_out : (m : ℕ) (ps : List ℕ) (q j : ℕ) → Apart ps → place_in (take m ps) q ≡ Some j → place_in (drop m ps) q ≡ None
front_out m ps q j a e = out_of (take m ps) (drop m ps) q j (parts_out m ps a) e

pub parts_none : (m : ℕ) (ps : List ℕ) (p k : ℕ) → Apart ps → place_in ps p ≡ Some k → k < m → place_in (drop m ps) p ≡ None
parts_none m ps p k a e h = front_out m ps p k a (place-take m ps p k e h)

pub none-join : (m : ℕ) (ps : List ℕ) (q : ℕ) → place_in (take m ps) q ≡ None → place_in (drop m ps) q ≡ None → place_in ps q ≡ None
none-join zero ps q e f = f
none-join (suc m) [] q e f = refl
none-join (suc m) (p ∷ ps) q e f = let n = place_none p (take m ps) q e in place-none-cons p ps q n.0 (none-join m ps q n.1 f)

pub held-without : (table : Table) (qs : List ℕ) (q b : ℕ) → is_held (without_all table qs q b) ≡ true → is_held (table q b) ≡ true
held-without table qs q b h = go (is_some (place_in qs q)) (ap is_held (sym (without_all-value table qs q b)) ∙ h)
  where
    go : (t : Bool) → is_held (cond t no_version (table q b)) ≡ true → is_held (table q b) ≡ true
    go true g = absurd (true≢false (sym g))
    go false g = g

pub fitting-cut : (n : ℕ) (ps : List ℕ) (table : Table) (m : ℕ) → Fitting n ps table → Fitting n (take m ps) (without_all table (drop m ps))
fitting-cut n ps table m x = record {
  idle = λ q e b. without_all-value table (drop m ps) q b ∙ go q b (place_in (drop m ps) q) refl e;
  inside = λ q b h. x.inside q b (held-without table (drop m ps) q b h);
  one = λ q b c h i e. x.one q b c (held-without table (drop m ps) q b h) (held-without table (drop m ps) q c i) e;
}
  where
    go : (q b : ℕ) (o : Option ℕ) → place_in (drop m ps) q ≡ o → place_in (take m ps) q ≡ None → cond (is_some o) no_version (table q b) ≡ no_version
    go q b None f e = x.idle q (none-join m ps q e f) b
    go q b (Some j) f e = refl

-- the head is gone
pub plain-retire : (ws ps : List ℕ) (table : Table) (p : ℕ) → Apart ps → place_in ps p ≡ Some 0 → plain_of ws (drop 1 ps) (without table p) ≡ plain_of ws (drop 1 ps) table
plain-retire ws ps table p a place =
    ap (λ l. record { memory = ws; order = l }) (tasks-agree (without table p) table (drop 1 ps) p (none-past ps p 0 a place) (without_other table p))

pub fitting-retire : (n : ℕ) (ps : List ℕ) (table : Table) (p : ℕ) → Fitting n ps table → place_in ps p ≡ Some 0 → Fitting n (drop 1 ps) (without table p)
fitting-retire n ps table p x place = record {
  idle = λ q e b. gone q b (eqb q p) refl e;
  inside = λ q b h. x.inside q b (held-without table (p ∷ []) q b h);
  one = λ q b c h i e. x.one q b c (held-without table (p ∷ []) q b h) (held-without table (p ∷ []) q c i) e;
}
  where
    first : (qs : List ℕ) → place_in qs p ≡ Some 0 → (q : ℕ) → eqb q p ≡ false → place_in (drop 1 qs) q ≡ None → place_in qs q ≡ None
    first [] e q other none = refl
    first (r ∷ qs) e q other none =
        let same : r ≡ p = head-is r (eqb r p) refl (place_in qs p) (sym (place_in-cons r qs p) ∙ e) in
        place-none-cons r qs q (ne_eqb r q (λ f. eqb-false q p other (sym f ∙ same))) none
      where
        head-is : (r : ℕ) (t : Bool) → eqb r p ≡ t → (o : Option ℕ) → cond t (Some 0) (option_map suc o) ≡ Some 0 → r ≡ p
        head-is r true h o e = eqb-true r p h
        head-is r false h None e = let z : ◌≡◌ {A = ℕ} 0 1 = cc in absurd (omega arith)
        head-is r false h (Some j) e = let z : suc j ≡ 0 = cc in absurd (omega arith)

    gone : (q b : ℕ) (t : Bool) → eqb q p ≡ t → place_in (drop 1 ps) q ≡ None → cond t no_version (table q b) ≡ no_version
    gone q b true h e = refl
    gone q b false h e = x.idle q (first ps place q h e) b
