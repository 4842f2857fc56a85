-- The lines of a set of classes changed one after another, where a change leaves the others as they are: all lines are changed.
use Rattle.std.proofs.Common.{◌≡◌, ℕ, ◌<◌, Bool, true, false, cond, not, ◌&&◌, eqb, List, map, length, get_or, set, sym, refl, ap, ◌∙◌, arith}
use Rattle.std.proofs.lemmas.List.{get_or-set_same, get_or-set_other, length-set, length-map, ext_get_or}
use Rattle.std.proofs.lemmas.Bool.{eqb-true, eqb-false}
use Rattle.versions.specs.ClassSets.{has}
use Rattle.versions.specs.declared.class_set.ClassSet.{ClassSet}
use Rattle.snooping.specs.declared.line.Line.{Line}
use Rattle.snooping.specs.Lines.{blank}
use Rattle.snooping.proofs.Grids.{get_d_map}

-- all lines xs are changed by f but those of the classes that are left
pub record Swept (f : Line → Line) (left : ClassSet) (xs ys : List Line) : Type 0 where
  pub long : length ys ≡ length xs
  pub lines : (c : ℕ) → c < 16 → get_or ys c blank ≡ cond (has left c) (get_or xs c blank) (f (get_or xs c blank))

module _ (f : Line → Line) (xs : List Line) where
  pub sweep-start : (valid : ClassSet) → ((c : ℕ) → c < 16 → has valid c ≡ false → f (get_or xs c blank) ≡ get_or xs c blank) → Swept f valid xs xs
  sweep-start valid outside = record { long = refl; lines = λ c l. go c l (has valid c) refl }
    where
      go : (c : ℕ) → c < 16 → (t : Bool) → has valid c ≡ t → get_or xs c blank ≡ cond t (get_or xs c blank) (f (get_or xs c blank))
      go c l true e = refl
      go c l false e = sym (outside c l e)

  pub sweep-step : (left next : ClassSet) (ys : List Line) (c : ℕ) → length xs ≡ 16 → Swept f left xs ys → c < 16 → has left c ≡ true → ((d : ℕ) → d < 16 → has next d ≡ (not (eqb d c) && has left d))
      → Swept f next xs (set ys c (f (get_or ys c blank)))
  sweep-step left next ys c wide so_far low inside rest = record { long = length-set ys c (f (get_or ys c blank)) ∙ so_far.long; lines = λ d l. go d l (eqb d c) refl }
    where
      go : (d : ℕ) → d < 16 → (t : Bool) → eqb d c ≡ t → get_or (set ys c (f (get_or ys c blank))) d blank ≡ cond (has next d) (get_or xs d blank) (f (get_or xs d blank))
      go d l true e =
          let same = eqb-true d c e in
          ap (λ (i : ℕ). get_or (set ys c (f (get_or ys c blank))) i blank) same
          ∙ (get_or-set_same ys c (f (get_or ys c blank)) blank (omega (arith, so_far.long))
          ∙ (ap f (so_far.lines c low ∙ ap (λ (t : Bool). cond t (get_or xs c blank) (f (get_or xs c blank))) inside)
          ∙ (ap (λ (i : ℕ). f (get_or xs i blank)) (sym same)
          ∙ sym (ap (λ (t : Bool). cond t (get_or xs d blank) (f (get_or xs d blank))) (rest d l ∙ ap (λ (t : Bool). not t && has left d) e)))))
      go d l false e =
          get_or-set_other ys c d (f (get_or ys c blank)) blank (λ s. eqb-false d c e s)
          ∙ (so_far.lines d l ∙ sym (ap (λ (t : Bool). cond t (get_or xs d blank) (f (get_or xs d blank))) (rest d l ∙ ap (λ (t : Bool). not t && has left d) e)))

  pub sweep-end : (left : ClassSet) (ys : List Line) → length xs ≡ 16 → f blank ≡ blank → Swept f left xs ys → ((c : ℕ) → c < 16 → has left c ≡ false) → ys ≡ map f xs
  sweep-end left ys wide same so_far none =
      ext_get_or blank ys (map f xs) (so_far.long ∙ sym (length-map xs f))
      (λ c h. let l : c < 16 = omega (arith, so_far.long) in so_far.lines c l ∙ (ap (λ (t : Bool). cond t (get_or xs c blank) (f (get_or xs c blank))) (none c l) ∙ sym (get_d_map f xs c same)))
