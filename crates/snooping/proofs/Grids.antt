-- One cache of the four changed, as the table of lines sees it.
use Rattle.std.proofs.Common.{◌≡◌, ℕ, zero, suc, ◌+◌, ◌%◌, ◌<◌, ◌≤◌, Bool, true, false, cond, ◌&&◌, eqb, ltb, List, [], ◌∷◌, map, length, get_or, set, replicate, is_some, sym, refl, ap, ◌∙◌, arith}
use mathlib.Core.Path.{fun_ext}
use Rattle.std.proofs.lemmas.List.{get_or-set_same, get_or-set_other, length-set, length-map, get_or_past}
use Rattle.std.proofs.lemmas.Bool.{eqb-true, eqb-false, cond-true, cond-false, ltb-true, ltb-false, lt-ltb, le-ltb, true≢false}
use Rattle.snooping.specs.declared.cache.Cache.{Cache}
use Rattle.snooping.specs.declared.line.Line.{Line}
use Rattle.snooping.specs.declared.state.LineEvent.TheVariants.{Squash, Commit}
use Rattle.versions.specs.Orders.{place_in}
use Rattle.versions.specs.Versions.{is_held}
use Rattle.snooping.specs.Grid.{LineTable, no_cache, line_in, Wide, Tagged, with_line, with_cache, cut_to}
use Rattle.snooping.specs.Lines.{blank, version_in, unlinked, ended}

pub get_d_map : (f : Line → Line) (xs : List Line) (c : ℕ) → f blank ≡ blank → get_or (map f xs) c blank ≡ f (get_or xs c blank)
get_d_map f [] c e = sym e
get_d_map f (x ∷ xs) zero e = refl
get_d_map f (x ∷ xs) (suc c) e = get_d_map f xs c e

-- a list with another element
pub at_set : {A : Type 0} (xs : List A) (i : ℕ) (x d : A) → i < length xs → (k : ℕ) → get_or (set xs i x) k d ≡ cond (eqb k i) x (get_or xs k d)
at_set xs i x d h k = go (eqb k i) refl
  where
    go : (t : Bool) → eqb k i ≡ t → get_or (set xs i x) k d ≡ cond t x (get_or xs k d)
    go true e = ap (λ (r : ℕ). get_or (set xs i x) r d) (eqb-true k i e) ∙ get_or-set_same xs i x d h
    go false e = get_or-set_other xs i k x d (λ same. eqb-false k i e same)

module _ (cs : List Cache) (p : ℕ) (x : Cache) (wide : Wide cs) (h : p < 4) where
  cache-at : (q : ℕ) → get_or (set cs p x) q no_cache ≡ cond (eqb q p) x (get_or cs q no_cache)
  cache-at = at_set cs p x no_cache (omega (arith, wide.caches))

  wide-set : length x.lines ≡ 16 → Wide (set cs p x)
  wide-set long = record { caches = length-set cs p x ∙ wide.caches; lines = λ q inside. go q inside (eqb q p) (cache-at q) }
    where
      go : (q : ℕ) → q < 4 → (t : Bool) → get_or (set cs p x) q no_cache ≡ cond t x (get_or cs q no_cache) → length (get_or (set cs p x) q no_cache).lines ≡ 16
      go q inside true e = ap (λ (y : Cache). length y.lines) e ∙ long
      go q inside false e = ap (λ (y : Cache). length y.lines) e ∙ wide.lines q inside

  -- all lines of p's cache changed, and one
  pub wide-mapped : (f : Line → Line) → x.lines ≡ map f (get_or cs p no_cache).lines → Wide (set cs p x)
  wide-mapped f is = wide-set (ap length is ∙ (length-map (get_or cs p no_cache).lines f ∙ wide.lines p h))

  pub wide-line : (c : ℕ) (y : Line) → x.lines ≡ set (get_or cs p no_cache).lines c y → Wide (set cs p x)
  wide-line c y is = wide-set (ap length is ∙ (length-set (get_or cs p no_cache).lines c y ∙ wide.lines p h))

  pub line-changed : (c : ℕ) (y : Line) → c < 16 → x.lines ≡ set (get_or cs p no_cache).lines c y → line_in (set cs p x) ≡ with_line (line_in cs) p c y
  line-changed c y low is = fun_ext (λ q. fun_ext (λ d. ap (λ (z : Cache). get_or z.lines d blank) (cache-at q) ∙ go q d (eqb q p) refl))
    where
      go : (q d : ℕ) (t : Bool) → eqb q p ≡ t → get_or (cond t x (get_or cs q no_cache)).lines d blank ≡ cond (t && eqb d c) y (get_or (get_or cs q no_cache).lines d blank)
      go q d true s =
          ap (λ (l : List Line). get_or l d blank) is
          ∙ (at_set (get_or cs p no_cache).lines c y blank (omega (arith, wide.lines p h)) d ∙ ap (λ (r : ℕ). cond (eqb d c) y (get_or (get_or cs r no_cache).lines d blank)) (sym (eqb-true q p s)))
      go q d false s = refl

  pub cache-mapped : (f : Line → Line) → f blank ≡ blank → x.lines ≡ map f (get_or cs p no_cache).lines → line_in (set cs p x) ≡ with_cache (line_in cs) p f
  cache-mapped f e is = fun_ext (λ q. fun_ext (λ c. ap (λ (y : Cache). get_or y.lines c blank) (cache-at q) ∙ go q c (eqb q p) refl))
    where
      go : (q c : ℕ) (t : Bool) → eqb q p ≡ t → get_or (cond t x (get_or cs q no_cache)).lines c blank ≡ cond t (f (get_or (get_or cs q no_cache).lines c blank)) (get_or (get_or cs q no_cache).lines c blank)
      go q c true s = ap (λ (l : List Line). get_or l c blank) is ∙ (get_d_map f (get_or cs p no_cache).lines c e ∙ ap (λ (r : ℕ). f (get_or (get_or cs r no_cache).lines c blank)) (sym (eqb-true q p s)))
      go q c false s = refl

blanks : (n c : ℕ) → get_or (replicate n blank) c blank ≡ blank
blanks zero c = refl
blanks (suc n) zero = refl
blanks (suc n) (suc c) = blanks n c

blank-rows : (x : Cache) → x.lines ≡ replicate 16 blank → (n q c : ℕ) → line_in (replicate n x) q c ≡ blank
blank-rows x e zero q c = refl
blank-rows x e (suc n) zero c = ap (λ (l : List Line). get_or l c blank) e ∙ blanks 16 c
blank-rows x e (suc n) (suc q) c = blank-rows x e n q c

pub new-lines : (x : Cache) → x.lines ≡ replicate 16 blank → line_in (replicate 4 x) ≡ (λ q c. blank)
new-lines x e = fun_ext (λ q. fun_ext (λ c. blank-rows x e 4 q c))

-- lines past the caches are blank
pub past-blank : (cs : List Cache) → Wide cs → (q c : ℕ) → 4 ≤ q → line_in cs q c ≡ blank
past-blank cs wide q c h = ap (λ (x : Cache). get_or x.lines c blank) (get_or_past cs q no_cache (omega (arith, wide.caches)))

-- the caches below p cut to the processors ps
abbrev pub cut_below : ℕ → List ℕ → LineTable → LineTable
cut_below p ps ls q d = cond (ltb q p) (cut_to ps ls q d) (ls q d)

pub cut-none : (ps : List ℕ) (ls : LineTable) → ls ≡ cut_below 0 ps ls
cut-none ps ls = fun_ext (λ q. fun_ext (λ d. sym (cond-false (ltb q 0) (cut_to ps ls q d) (ls q d) (le-ltb q 0 (omega arith)))))

module _ (ps : List ℕ) (ls now : LineTable) (p : ℕ) (so_far : now ≡ cut_below p ps ls) where
  pub cut-yet : (d : ℕ) → now p d ≡ ls p d
  cut-yet d = ap (λ (x : LineTable). x p d) so_far ∙ cond-false (ltb p p) (cut_to ps ls p d) (ls p d) (le-ltb p p (omega arith))

  step-at : (f : Line → Line) (q d : ℕ) → ((d : ℕ) → f (ls p d) ≡ cut_to ps ls p d) → (t u : Bool) → eqb q p ≡ t → ltb q p ≡ u
      → cond t (f (cond u (cut_to ps ls q d) (ls q d))) (cond u (cut_to ps ls q d) (ls q d)) ≡ cut_below (p + 1) ps ls q d
  step-at f q d is true true e u = absurd (omega (arith, eqb-true q p e, ltb-true q p u))
  step-at f q d is true false e u =
      ap (λ (r : ℕ). f (ls r d)) (eqb-true q p e)
      ∙ (is d ∙ (ap (λ (r : ℕ). cut_to ps ls r d) (sym (eqb-true q p e)) ∙ sym (cond-true (ltb q (p + 1)) (cut_to ps ls q d) (ls q d) (lt-ltb q (p + 1) (omega (arith, eqb-true q p e))))))
  step-at f q d is false true e u = sym (cond-true (ltb q (p + 1)) (cut_to ps ls q d) (ls q d) (lt-ltb q (p + 1) (omega (arith, ltb-true q p u))))
  step-at f q d is false false e u = sym (cond-false (ltb q (p + 1)) (cut_to ps ls q d) (ls q d) (le-ltb q (p + 1) (over (eqb-false q p e) (ltb-false q p u))))
    where
      over : (q ≡ p → ⊥) → p ≤ q → p + 1 ≤ q
      over ne le = omega arith

  cut_on : (f : Line → Line) (later : LineTable) → ((d : ℕ) → f (ls p d) ≡ cut_to ps ls p d) → later ≡ with_cache now p f → later ≡ cut_below (p + 1) ps ls
  cut_on f later is e =
      e ∙ (ap (λ (x : LineTable). with_cache x p f) so_far ∙ fun_ext (λ q. fun_ext (λ d. step-at f q d is (eqb q p) (ltb q p) refl refl)))

  pub cut-active : (later : LineTable) → is_some (place_in ps p) ≡ true → later ≡ with_cache now p (unlinked ps) → later ≡ cut_below (p + 1) ps ls
  cut-active later active = cut_on (unlinked ps) later (λ d. sym (cond-true (is_some (place_in ps p)) (unlinked ps (ls p d)) blank active))

  pub cut-idle : (later : LineTable) → is_some (place_in ps p) ≡ false → later ≡ with_cache now p (ended Squash) → later ≡ cut_below (p + 1) ps ls
  cut-idle later idle = cut_on (ended Squash) later (λ d. sym (cond-false (is_some (place_in ps p)) (unlinked ps (ls p d)) blank idle))

pub cut-all-caches : (ps : List ℕ) (cs : List Cache) (now : LineTable) (p : ℕ) → 4 ≤ p → Wide cs → now ≡ cut_below p ps (line_in cs) → now ≡ cut_to ps (line_in cs)
cut-all-caches ps cs now p all wide is = is ∙ fun_ext (λ q. fun_ext (λ d. go q d (ltb q p) refl))
  where
    gone : (t : Bool) → blank ≡ cond t (unlinked ps blank) blank
    gone true = refl
    gone false = refl

    go : (q d : ℕ) (t : Bool) → ltb q p ≡ t → cond t (cut_to ps (line_in cs) q d) (line_in cs q d) ≡ cut_to ps (line_in cs) q d
    go q d true e = refl
    go q d false e =
        let b = past-blank cs wide q d (omega (arith, ltb-false q p e)) in
        b ∙ (gone (is_some (place_in ps q)) ∙ ap (λ (x : Line). cond (is_some (place_in ps q)) (unlinked ps x) blank) (sym b))

-- tags stay in their lines where a cache ends, and where the caches are cut
pub tagged-ended : (ls : LineTable) (p : ℕ) → Tagged ls → Tagged (with_cache ls p (ended Commit))
tagged-ended ls p tagged = λ q c. go q c (eqb q p)
  where
    go : (q c : ℕ) (t : Bool) → is_held (version_in (cond t (ended Commit (ls q c)) (ls q c))) ≡ true → (cond t (ended Commit (ls q c)) (ls q c)).tag % 16 ≡ c
    go q c true held = absurd (true≢false (sym held))
    go q c false held = tagged q c held

pub tagged-cut : (ps : List ℕ) (ls : LineTable) → Tagged ls → Tagged (cut_to ps ls)
tagged-cut ps ls tagged = λ q c. go q c (is_some (place_in ps q))
  where
    go : (q c : ℕ) (t : Bool) → is_held (version_in (cond t (unlinked ps (ls q c)) blank)) ≡ true → (cond t (unlinked ps (ls q c)) blank).tag % 16 ≡ c
    go q c true held = tagged q c held
    go q c false held = absurd (true≢false (sym held))
