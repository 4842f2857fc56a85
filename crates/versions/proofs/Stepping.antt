-- Going through the tasks in order: the nearest earlier version, and what a task sees.
use Rattle.std.proofs.Common.{◌≡◌, ℕ, Bool, true, false, cond, List, [], ◌∷◌, map, is_some, Some, None, Option, MatchOption, unwrap_or, sym, refl, ap, ◌∙◌}
use Rattle.std.specs.Option.{option_or}
use Rattle.std.proofs.lemmas.Bool.{true≢false}
use Rattle.versions.specs.declared.version.Version.{Version}
use Rattle.versions.specs.Tables.{last_that}
use Rattle.versions.specs.Versions.{is_own, nearest_own, seen_by, laid_over}
use Rattle.versions.proofs.Ordering.{none-some}

-- what the last of some tasks sees, by the nearest own word
pub seen-nearest : (vs : List Version) (w : ℕ) → seen_by vs w ≡ unwrap_or (nearest_own vs) w
seen-nearest [] w = refl
seen-nearest (v ∷ vs) w = seen-nearest vs (laid_over v w) ∙ go (nearest_own vs)
  where
    go : (o : Option ℕ) → unwrap_or o (laid_over v w) ≡ unwrap_or (option_or o v.own) w
    go None = refl
    go (Some x) = refl

-- it passes the test
last-passes : (f : ℕ → Bool) (xs : List ℕ) (q : ℕ) → last_that f xs ≡ Some q → f q ≡ true
last-passes f [] q e = absurd (none-some q (sym e))
last-passes f (r ∷ xs) q e = go (last_that f xs) refl (f r) refl e (λ i. last-passes f xs q i)
  where
    go : (o : Option ℕ) → last_that f xs ≡ o → (t : Bool) → f r ≡ t → option_or (last_that f xs) (cond (f r) (Some r) None) ≡ Some q → (last_that f xs ≡ Some q → f q ≡ true) → f q ≡ true
    go (Some x) i t s e again = again (i ∙ (sym (ap (λ (o : Option ℕ). option_or o (cond (f r) (Some r) None)) i) ∙ e))
    go None i true s e again =
        let is : Some r ≡ Some q = sym (ap (λ (o : Option ℕ). option_or o (cond (f r) (Some r) None)) i ∙ ap (λ (t : Bool). cond t (Some r) None) s) ∙ e in
        let same : r ≡ q = cc in
        ap f (sym same) ∙ s
    go None i false s e again =
        let is : None ≡ Some q = sym (ap (λ (o : Option ℕ). option_or o (cond (f r) (Some r) None)) i ∙ ap (λ (t : Bool). cond t (Some r) None) s) ∙ e in
        absurd (none-some q (sym is))

-- the own word of the nearest version is the nearest own word
abbrev own_at : (ℕ → Version) → Option ℕ → Option ℕ
own_at f None = None
own_at f (Some q) = (f q).own

nearest-last : (f : ℕ → Version) (ps : List ℕ) → own_at f (last_that (λ q. is_own (f q)) ps) ≡ nearest_own (map f ps)
nearest-last f [] = refl
nearest-last f (p ∷ ps) = go (last_that (λ q. is_own (f q)) ps) refl (nearest-last f ps)
  where
    held : (x o : Option ℕ) → is_some x ≡ true → x ≡ option_or x o
    held None o e = absurd (true≢false (sym e))
    held (Some w) o e = refl

    here : (x : Option ℕ) → own_at f (cond (is_some x) (Some p) None) ≡ cond (is_some x) (f p).own None
    here None = refl
    here (Some w) = refl

    own : (x : Option ℕ) → cond (is_some x) x None ≡ x
    own None = refl
    own (Some w) = refl

    go : (o : Option ℕ) → last_that (λ q. is_own (f q)) ps ≡ o → own_at f (last_that (λ q. is_own (f q)) ps) ≡ nearest_own (map f ps)
        → own_at f (option_or (last_that (λ q. is_own (f q)) ps) (cond (is_own (f p)) (Some p) None)) ≡ option_or (nearest_own (map f ps)) (f p).own
    go None i e =
        let none : None ≡ nearest_own (map f ps) = sym (ap (own_at f) i) ∙ e in
        ap (λ (o : Option ℕ). own_at f (option_or o (cond (is_own (f p)) (Some p) None))) i
        ∙ (here (f p).own ∙ (own (f p).own ∙ ap (λ (o : Option ℕ). option_or o (f p).own) none))
    go (Some q) i e =
        let some : (f q).own ≡ nearest_own (map f ps) = sym (ap (own_at f) i) ∙ e in
        ap (λ (o : Option ℕ). own_at f (option_or o (cond (is_own (f p)) (Some p) None))) i
        ∙ (held (f q).own (f p).own (last-passes (λ r. is_own (f r)) ps q i) ∙ ap (λ (o : Option ℕ). option_or o (f p).own) some)

pub nearest-own : {P : ℕ → Type 0} (f : ℕ → Version) (ps : List ℕ) (o r : Option ℕ) → o ≡ last_that (λ q. is_own (f q)) ps → MatchOption o (r ≡ None) P → ((q : ℕ) → P q → r ≡ (f q).own) → r ≡ nearest_own (map f ps)
nearest-own {P = P} f ps o r is m k = at o m ∙ (ap (own_at f) is ∙ nearest-last f ps)
  where
    at : (o : Option ℕ) → MatchOption o (r ≡ None) P → r ≡ own_at f o
    at None m = m
    at (Some q) m = k q m
