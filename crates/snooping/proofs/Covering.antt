-- The sets of classes beside the caches: a line outside of its processor's set stays blank.
use Rattle.std.proofs.Common.{◌≡◌, ℕ, ◌<◌, ◌≤◌, Bool, true, false, cond, ◌&&◌, ◌||◌, eqb, List, map, get_or, set, is_some, Some, None, Option, ⊎_elim, sym, refl, ap, ◌∙◌, arith}
use Rattle.std.proofs.lemmas.List.{length-set}
use Rattle.std.proofs.lemmas.Bool.{eqb-true, cases_lt, true≢false}
use Rattle.versions.specs.ClassSets.{has, no_class}
use Rattle.versions.specs.declared.class_set.ClassSet.{ClassSet}
use Rattle.versions.specs.Orders.{place_in}
use Rattle.versions.specs.Versions.{is_held}
use Rattle.snooping.specs.declared.cache.Cache.{Cache}
use Rattle.snooping.specs.declared.line.Line.{Line}
use Rattle.snooping.specs.Grid.{no_cache, line_in, Wide, Covered, Pointing}
use Rattle.snooping.specs.Lines.{blank, version_in, with_next, pointer_to, unlinked}
use Rattle.snooping.proofs.Grids.{at_set, past-blank, cache-mapped, line-changed}

-- a line that holds something is of a class in the set
pub covered-held : (cs : List Cache) (sets : List ClassSet) → Covered cs sets → (q c : ℕ) → q < 4 → c < 16 → is_held (version_in (line_in cs q c)) ≡ true → has (get_or sets q no_class) c ≡ true
covered-held cs sets covered q c h l held = go (has (get_or sets q no_class) c) refl
  where
    go : (t : Bool) → has (get_or sets q no_class) c ≡ t → t ≡ true
    go true e = refl
    go false e = absurd (true≢false (sym held ∙ ap (λ (x : Line). is_held (version_in x)) (covered.outside q c h l e)))

module _ (cs : List Cache) (sets : List ClassSet) (covered : Covered cs sets) (wide : Wide cs) (p : ℕ) (x : Cache) (h : p < 4) where
  -- all lines of p's cache changed, and the set left as it is
  pub covered-mapped : (f : Line → Line) → f blank ≡ blank → x.lines ≡ map f (get_or cs p no_cache).lines → Covered (set cs p x) sets
  covered-mapped f same is = record {
    long = covered.long;
    outside = λ q c low l out. ap (λ (ls : ℕ → ℕ → Line). ls q c) (cache-mapped cs p x wide h f same is) ∙ go q c low l out (eqb q p);
  }
    where
      go : (q c : ℕ) → q < 4 → c < 16 → has (get_or sets q no_class) c ≡ false → (t : Bool) → cond t (f (line_in cs q c)) (line_in cs q c) ≡ blank
      go q c low l out true = ap f (covered.outside q c low l out) ∙ same
      go q c low l out false = covered.outside q c low l out

  -- all lines of p's cache ended, and any set
  pub covered-ended : (f : Line → Line) (s : ClassSet) → ((y : Line) → f y ≡ blank) → x.lines ≡ map f (get_or cs p no_cache).lines → Covered (set cs p x) (set sets p s)
  covered-ended f s ends is = record {
    long = length-set sets p s ∙ covered.long;
    outside = λ q c low l out. ap (λ (ls : ℕ → ℕ → Line). ls q c) (cache-mapped cs p x wide h f (ends blank) is) ∙ go q c low l (eqb q p) (at_set sets p s no_class (omega (arith, covered.long)) q) out;
  }
    where
      go : (q c : ℕ) → q < 4 → c < 16 → (t : Bool) → get_or (set sets p s) q no_class ≡ cond t s (get_or sets q no_class) → has (get_or (set sets p s) q no_class) c ≡ false
          → cond t (f (line_in cs q c)) (line_in cs q c) ≡ blank
      go q c low l true e out = ends (line_in cs q c)
      go q c low l false e out = covered.outside q c low l (ap (λ (y : ClassSet). has y c) (sym e) ∙ out)

  -- line c of p's cache changed, and put into the set
  pub covered-taken : (c : ℕ) (y : Line) (s : ClassSet) → c < 16 → x.lines ≡ set (get_or cs p no_cache).lines c y → ((d : ℕ) → has s d ≡ (eqb d c || has (get_or sets p no_class) d)) → Covered (set cs p x) (set sets p s)
  covered-taken c y s low_c is put = record {
    long = length-set sets p s ∙ covered.long;
    outside = λ q d low l out. ap (λ (ls : ℕ → ℕ → Line). ls q d) (line-changed cs p x wide h c y low_c is) ∙ go q d low l (eqb q p) (eqb d c) refl refl (at_set sets p s no_class (omega (arith, covered.long)) q) out;
  }
    where
      go : (q d : ℕ) → q < 4 → d < 16 → (t u : Bool) → eqb q p ≡ t → eqb d c ≡ u → get_or (set sets p s) q no_class ≡ cond t s (get_or sets q no_class) → has (get_or (set sets p s) q no_class) d ≡ false
          → cond (t && u) y (line_in cs q d) ≡ blank
      go q d low l true true t u e out = absurd (true≢false (sym (ap (λ (z : ClassSet). has z d) e ∙ (put d ∙ ap (λ (b : Bool). b || has (get_or sets p no_class) d) u)) ∙ out))
      go q d low l true false t u e out = covered.outside q d low l
          (ap (λ (r : ℕ). has (get_or sets r no_class) d) (eqb-true q p t) ∙ (ap (λ (b : Bool). b || has (get_or sets p no_class) d) (sym u) ∙ (sym (put d) ∙ (ap (λ (z : ClassSet). has z d) (sym e) ∙ out))))
      go q d low l false u t v e out = covered.outside q d low l (ap (λ (z : ClassSet). has z d) (sym e) ∙ out)

  -- line c of p's cache changed, which is in the set already or becomes blank
  pub covered-line : (c : ℕ) (y : Line) → c < 16 → x.lines ≡ set (get_or cs p no_cache).lines c y → (has (get_or sets p no_class) c ≡ false → y ≡ blank) → Covered (set cs p x) sets
  covered-line c y low_c is kept = record {
    long = covered.long;
    outside = λ q d low l out. ap (λ (ls : ℕ → ℕ → Line). ls q d) (line-changed cs p x wide h c y low_c is) ∙ go q d low l (eqb q p) (eqb d c) refl refl out;
  }
    where
      go : (q d : ℕ) → q < 4 → d < 16 → (t u : Bool) → eqb q p ≡ t → eqb d c ≡ u → has (get_or sets q no_class) d ≡ false → cond (t && u) y (line_in cs q d) ≡ blank
      go q d low l true true t u out = kept (ap (λ (r : ℕ). has (get_or sets r no_class) c) (sym (eqb-true q p t)) ∙ (ap (λ (i : ℕ). has (get_or sets q no_class) i) (sym (eqb-true d c u)) ∙ out))
      go q d low l true false t u out = covered.outside q d low l out
      go q d low l false u t e out = covered.outside q d low l out

-- where no processor without a task has a line of a class, no pointer to such a processor stands in a line of that class
module _ (cs : List Cache) (sets : List ClassSet) (covered : Covered cs sets) (wide : Wide cs) (points : Pointing (line_in cs)) (ps : List ℕ) (touched : ClassSet)
    (left : (r c : ℕ) → r < 4 → is_some (place_in ps r) ≡ false → has touched c ≡ false → has (get_or sets r no_class) c ≡ false) where
  pub pointer-stays : (q c : ℕ) → c < 16 → has touched c ≡ false → unlinked ps (line_in cs q c) ≡ line_in cs q c
  pointer-stays q c l out = go (line_in cs q c).next refl
    where
      unheld : (r : ℕ) → line_in cs r c ≡ blank → is_held (version_in (line_in cs r c)) ≡ true → ⊥
      unheld r e held = true≢false (sym held ∙ ap (λ (x : Line). is_held (version_in x)) e)

      kept : (r : ℕ) → (line_in cs q c).next ≡ Some r → (t : Bool) → is_some (place_in ps r) ≡ t → cond t (Some r) None ≡ Some r
      kept r e true s = refl
      kept r e false s =
          absurd (⊎_elim (λ (h : r < 4). unheld r (covered.outside r c h l (left r c h s out)) (points q c r e)) (λ (h : 4 ≤ r). unheld r (past-blank cs wide r c h) (points q c r e)) (cases_lt r 4))

      go : (o : Option ℕ) → (line_in cs q c).next ≡ o → with_next (line_in cs q c) (pointer_to ps (line_in cs q c).next) ≡ line_in cs q c
      go None e = ap (λ (n : Option ℕ). with_next (line_in cs q c) (pointer_to ps n)) e ∙ ap (with_next (line_in cs q c)) (sym e)
      go (Some r) e = ap (λ (n : Option ℕ). with_next (line_in cs q c) (pointer_to ps n)) e ∙ ap (with_next (line_in cs q c)) (kept r e (is_some (place_in ps r)) refl ∙ sym e)

-- so a line of a class that is in two sets of these kinds not at once stays as it is
pub outside-both : (ps : List ℕ) (x : Line) (a b t : Bool) → t ≡ (a && b) → t ≡ false → (a ≡ false → x ≡ blank) → (b ≡ false → unlinked ps x ≡ x) → unlinked ps x ≡ x
outside-both ps x true b t e out empty stays = stays (sym e ∙ out)
outside-both ps x false b t e out empty stays = let is = empty refl in ap (unlinked ps) is ∙ sym is
