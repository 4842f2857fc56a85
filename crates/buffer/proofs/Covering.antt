-- Laws of the sets of classes beside the rows: a processor holds nothing of a class outside its set, whatever is put or cleared.
use Rattle.std.proofs.Common.{◌≡◌, ℕ, ◌%◌, ◌<◌, Bool, true, false, cond, not, ◌&&◌, ◌||◌, eqb, ◌≢◌, List, length, get_or, set, sym, refl, ap, ◌∙◌, ⊎_elim, arith}
use Rattle.std.proofs.lemmas.List.{length-set, get_or-set_same, get_or-set_other}
use Rattle.std.proofs.lemmas.Bool.{eq-eqb, ne_eqb, cases_eq, cond-false, true≢false}
use Rattle.std.proofs.lemmas.Bool.Decides.{nat_tests}
use Rattle.buffer.specs.declared.rows.Row.{Row}
use Rattle.versions.specs.declared.class_set.ClassSet.{ClassSet}
use Rattle.versions.specs.declared.version.Version.{Version}
use Rattle.versions.specs.ClassSets.{has, no_class}
use Rattle.versions.specs.Versions.{no_version, is_held}
use Rattle.versions.specs.Tables.{Table, empty_table, with_version}
use Rattle.buffer.specs.Sets.{in_sets, Covered}

pub covered-new : (classes : List ClassSet) (sets : List (List Row)) → length classes ≡ 4 → in_sets sets ≡ empty_table → Covered classes sets
covered-new classes sets long none = record { count = long; all = λ p b l h. absurd (true≢false (sym h ∙ ap (λ (t : Table). is_held (t p b)) none)) }

-- p's version of a is put, and its class into the set at place i, p's
pub covered-put : (classes : List ClassSet) (sets later : List (List Row)) (i c p a : ℕ) (v : Version) (s : ClassSet) → i ≡ p → c ≡ a % 16 → p < 4 → Covered classes sets
    → in_sets later ≡ with_version (in_sets sets) p a v → ((d : ℕ) → has s d ≡ (eqb d c || has (get_or classes i no_class) d)) → Covered (set classes i s) later
covered-put classes sets later i c p a v s place class within g table more = record {
  count = length-set classes i s ∙ g.count;
  all = λ q b l h.
      let held : is_held (cond (eqb q p && eqb a b) v (in_sets sets q b)) ≡ true = sym (ap (λ (t : Table). is_held (t q b)) table) ∙ h in
      let before : (eqb q p && eqb a b) ≡ false → has (get_or classes q no_class) (b % 16) ≡ true =
      λ off. g.all q b l (sym (ap is_held (cond-false (eqb q p && eqb a b) v (in_sets sets q b) off)) ∙ held) in
      ⊎_elim
      (λ (e : q ≡ i).
      ap (λ (k : ℕ). has (get_or (set classes i s) k no_class) (b % 16)) e
      ∙ (ap (λ (t : ClassSet). has t (b % 16)) (get_or-set_same classes i s no_class (omega (arith, g.count)))
      ∙ (more (b % 16)
      ∙ ⊎_elim
      (λ (f : a ≡ b). ap (λ (t : Bool). t || has (get_or classes i no_class) (b % 16)) (eq-eqb (b % 16) c (ap (λ (x : ℕ). x % 16) (sym f) ∙ sym class)))
      (λ (f : a ≢ b).
      let other : eqb a b ≡ false = ne_eqb a b f in
      let old : has (get_or classes i no_class) (b % 16) ≡ true = ap (λ (k : ℕ). has (get_or classes k no_class) (b % 16)) (sym e) ∙ before (grind (arith, nat_tests)) in
      either (eqb (b % 16) c) (has (get_or classes i no_class) (b % 16)) old)
      (cases_eq a b))))
      (λ (ne : q ≢ i).
      let other : eqb q p ≡ false = ne_eqb q p (λ e. ne (e ∙ sym place)) in
      ap (λ (t : ClassSet). has t (b % 16)) (get_or-set_other classes i q s no_class ne) ∙ before (grind (arith, nat_tests)))
      (cases_eq q i);
}
  where
    either : (s t : Bool) → t ≡ true → (s || t) ≡ true
    either true t h = refl
    either false t h = h

-- sets that hold less are covered too
pub covered-less : (classes : List ClassSet) (sets later : List (List Row)) (f : ℕ → ℕ → Bool) → ((q b : ℕ) → in_sets later q b ≡ cond (f q b) no_version (in_sets sets q b))
    → Covered classes sets → Covered classes later
covered-less classes sets later f is g = record { count = g.count; all = λ q b l h. g.all q b l (go q b (f q b) (sym (ap is_held (is q b)) ∙ h)) }
  where
    go : (q b : ℕ) (t : Bool) → is_held (cond t no_version (in_sets sets q b)) ≡ true → is_held (in_sets sets q b) ≡ true
    go q b true h = absurd (true≢false (sym h))
    go q b false h = h

-- of p's versions in a table, those of the classes that are not in a set are taken out
abbrev pub ClearedBut : ClassSet → Table → ℕ → Table → Type 0
ClearedBut left first p later = (q b : ℕ) → later q b ≡ cond (eqb q p && not (has left (b % 16))) no_version (first q b)

-- where one class less is left
pub cleared-step : (left rest : ClassSet) (c p : ℕ) (first before later : Table) → has left c ≡ true → ((d : ℕ) → d < 16 → has rest d ≡ (not (eqb d c) && has left d))
    → ((q b : ℕ) → later q b ≡ cond (eqb q p && eqb (b % 16) c) no_version (before q b)) → ClearedBut left first p before → ClearedBut rest first p later
cleared-step left rest c p first before later inside less is so q b =
    is q b
    ∙ (ap (cond (eqb q p && eqb (b % 16) c) no_version) (so q b)
    ∙ (go (eqb q p) (eqb (b % 16) c) (has left (b % 16)) ∙ ap (λ (t : Bool). cond (eqb q p && not t) no_version (first q b)) (sym (less (b % 16) (omega arith)))))
  where
    go : (t s h : Bool) → cond (t && s) no_version (cond (t && not h) no_version (first q b)) ≡ cond (t && not (not s && h)) no_version (first q b)
    go true true h = refl
    go true false h = refl
    go false s h = refl
