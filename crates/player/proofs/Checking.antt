-- The checks of an image: which fault comes first, and what an image without one keeps.
use Rattle.std.proofs.Common.{◌≡◌, ℕ, ◌+◌, ◌*◌, ◌<◌, ◌≤◌, Bool, true, false, cond, not, ◌||◌, eqb, ltb, List, [], ◌∷◌, ◌++◌, length, Some, None, Ok, Err, Option, Result, sym, refl, ap, ◌∙◌, arith}
use Rattle.std.proofs.lemmas.List.Sums.{sum_by-cons}
use Rattle.std.proofs.lemmas.Bool.{cond-true, cond-false, or_parts, eq-eqb, ne_eqb, lt-ltb, le-ltb, ltb-false, eqb-true, not-false, not_from_true, not_from_false}
use Rattle.memory.specs.Bytes.{words_of}
use Rattle.player.specs.declared.fault.ImageWhy.TheVariants.{Length, PairCount, PairOrder, PairOutside}
use Rattle.player.specs.declared.image.Pair.{Pair}
use Rattle.player.specs.Faults.{ImageFault}
use Rattle.player.specs.Image.{first_pairs, pair_conditions, fault_at, pair_end, Inside, words_taken, image_fault, load_answer}
use Rattle.versions.specs.Conditions.{answer_unless, first_of}

-- one pair more takes its words
pub first_taken : (p : Pair) (ps qs : List Pair) → ps ≡ p ∷ qs → words_taken ps ≡ p.len + words_taken qs
first_taken p ps qs is = ap words_taken is ∙ sum_by-cons (λ (q : Pair). q.len) p qs

-- the fault of one list of conditions before another
first_of-append-some : (cs ds : List (Bool × ImageFault)) (e : ImageFault) → first_of cs ≡ Some e → first_of (cs ++ ds) ≡ Some e
first_of-append-some [] ds e h = let z : ◌≡◌ {A = ℕ} 0 1 = cc in absurd (omega arith)
first_of-append-some (c ∷ cs) ds e h = go c.0 refl (first_of-append-some cs ds e)
  where
    go : (b : Bool) → c.0 ≡ b → (first_of cs ≡ Some e → first_of (cs ++ ds) ≡ Some e) → first_of ((c ∷ cs) ++ ds) ≡ Some e
    go true t later = cond-true _ _ _ t ∙ (sym (cond-true _ _ _ t) ∙ h)
    go false t later = cond-false _ _ _ t ∙ later (sym (cond-false _ _ _ t) ∙ h)

first_of-append-none : (cs ds : List (Bool × ImageFault)) → first_of cs ≡ None → first_of (cs ++ ds) ≡ first_of ds
first_of-append-none [] ds h = refl
first_of-append-none (c ∷ cs) ds h = go c.0 refl (first_of-append-none cs ds)
  where
    go : (b : Bool) → c.0 ≡ b → (first_of cs ≡ None → first_of (cs ++ ds) ≡ first_of ds) → first_of ((c ∷ cs) ++ ds) ≡ first_of ds
    go true t later = let bad : Some c.1 ≡ None = sym (cond-true _ _ _ t) ∙ h in let z : ◌≡◌ {A = ℕ} 0 1 = cc in absurd (omega arith)
    go false t later = cond-false _ _ _ t ∙ later (sym (cond-false _ _ _ t) ∙ h)

-- what an answer tells of the fault
pub fault-from-err : {X : Type 0} (f : Option ImageFault) (t : X) (e : ImageFault) → Err e ≡ answer_unless f t → f ≡ Some e
fault-from-err None t e h = let z : ◌≡◌ {A = ℕ} 0 1 = cc in absurd (omega arith)
fault-from-err (Some x) t e h = cc

pub no-fault-from-ok : (f : Option ImageFault) → ◌≡◌ {A = Result (Unit {0}) ImageFault} (Ok tt) (answer_unless f tt) → f ≡ None
no-fault-from-ok None h = refl
no-fault-from-ok (Some x) h = let z : ◌≡◌ {A = ℕ} 0 1 = cc in absurd (omega arith)

pub none-from-ok : (f : Option ImageFault) (t w : ℕ) → Ok w ≡ answer_unless f t → (f ≡ None) × (t ≡ w)
none-from-ok None t w h = (refl, cc)
none-from-ok (Some x) t w h = let z : ◌≡◌ {A = ℕ} 0 1 = cc in absurd (omega arith)

-- an image of fewer than four bytes is not accepted
pub no-count : (n : ℕ) (bytes : List ℕ) → length bytes < 4 → Err (fault_at Length (length bytes)) ≡ load_answer n bytes
unfolding image_fault
no-count n bytes short = rw (lt-ltb (length bytes) 4 short)

pub has-count : (n : ℕ) (bytes : List ℕ) → Ok tt ≡ load_answer n bytes → length bytes < 4 → ⊥
has-count n bytes ok short =
    let bad : ◌≡◌ {A = Result (Unit {0}) ImageFault} (Ok tt) (Err (fault_at Length (length bytes))) = ok ∙ sym (no-count n bytes short) in
    let z : ◌≡◌ {A = ℕ} 0 1 = cc in omega arith

-- the checks of an image of m bytes that says how many pairs it has, by the numbers ns after that; the last alone, those
-- from the pairs on, and those from the count on
abbrev last_check : ℕ → ℕ → List ℕ → List (Bool × ImageFault)
last_check m count ns = (not (eqb m (4 + 8 * count + 4 * words_taken (first_pairs count ns))), fault_at Length m) ∷ []

abbrev pair_checks : ℕ → ℕ → ℕ → List ℕ → List (Bool × ImageFault)
pair_checks n m count ns = pair_conditions n 4 0 (first_pairs count ns) ++ last_check m count ns

abbrev count_checks : ℕ → ℕ → ℕ → List ℕ → List (Bool × ImageFault)
count_checks n m count ns = (ltb 64 count, fault_at PairCount 0) ∷ (ltb m (4 + 8 * count), fault_at Length m) ∷ pair_checks n m count ns

module _ (n count k : ℕ) (bytes ns : List ℕ) (is : words_of bytes ≡ count ∷ ns) (long : length bytes ≡ 4 + k) where
  answer-by : (f : Option ImageFault) → image_fault n bytes ≡ f → answer_unless {X = Unit {0}} f tt ≡ load_answer n bytes
  answer-by f e = sym (ap (λ (x : Option ImageFault). answer_unless {X = Unit {0}} x tt) e)

  found-by : image_fault n bytes ≡ first_of ((ltb (length bytes) 4, fault_at Length (length bytes)) ∷ count_checks n (length bytes) count ns)
  unfolding image_fault
  found-by = rw is

  found-counted : image_fault n bytes ≡ first_of (count_checks n (length bytes) count ns)
  found-counted = found-by ∙ cond-false _ _ _ (le-ltb (length bytes) 4 (omega arith))

  pub too_many : 64 < count → Err (fault_at PairCount 0) ≡ load_answer n bytes
  too_many many = answer-by (Some (fault_at PairCount 0)) (found-counted ∙ cond-true _ _ _ (lt-ltb 64 count many))

  pub pairs-cut : count ≤ 64 → k < 8 * count → Err (fault_at Length (length bytes)) ≡ load_answer n bytes
  pairs-cut few cut =
      answer-by (Some (fault_at Length (length bytes)))
      (found-counted ∙ (cond-false _ _ _ (le-ltb 64 count few) ∙ cond-true _ _ _ (lt-ltb (length bytes) (4 + 8 * count) (omega arith))))

  module _ (few : count ≤ 64) (whole : 8 * count ≤ k) where
    found-pairs : image_fault n bytes ≡ first_of (pair_checks n (length bytes) count ns)
    found-pairs = found-counted ∙ (cond-false _ _ _ (le-ltb 64 count few) ∙ cond-false _ _ _ (le-ltb (length bytes) (4 + 8 * count) (omega arith)))

    pub pair-wrong : (e : ImageFault) → Err e ≡ answer_unless (first_of (pair_conditions n 4 0 (first_pairs count ns))) (words_taken (first_pairs count ns))
        → Err e ≡ load_answer n bytes
    pair-wrong e err =
        answer-by (Some e)
        (found-pairs
        ∙ first_of-append-some (pair_conditions n 4 0 (first_pairs count ns)) (last_check (length bytes) count ns) e (fault-from-err _ _ e err))

    module _ (words : ℕ) (ok : Ok words ≡ answer_unless (first_of (pair_conditions n 4 0 (first_pairs count ns))) (words_taken (first_pairs count ns))) where
      found-last : image_fault n bytes ≡ cond (not (eqb (length bytes) (4 + 8 * count + 4 * words))) (Some (fault_at Length (length bytes))) None
      found-last =
          let so : (first_of (pair_conditions n 4 0 (first_pairs count ns)) ≡ None) × (words_taken (first_pairs count ns) ≡ words) = none-from-ok _ _ words ok in
          found-pairs
          ∙ (first_of-append-none (pair_conditions n 4 0 (first_pairs count ns)) (last_check (length bytes) count ns) so.0
          ∙ ap (λ (m : ℕ). cond (not (eqb (length bytes) (4 + 8 * count + 4 * m))) (Some (fault_at Length (length bytes))) None) so.1)

      pub wrong-length : (k ≡ 8 * count + 4 * words → ⊥) → Err (fault_at Length (length bytes)) ≡ load_answer n bytes
      wrong-length other =
          answer-by (Some (fault_at Length (length bytes)))
          (found-last
          ∙ cond-true _ _ _ (not_from_false _ (ne_eqb (length bytes) (4 + 8 * count + 4 * words) (λ (e : length bytes ≡ 4 + 8 * count + 4 * words). other (omega arith)))))

      pub right-length : k ≡ 8 * count + 4 * words → Ok tt ≡ load_answer n bytes
      right-length e =
          answer-by None (found-last ∙ cond-false _ _ _ (not_from_true _ (eq-eqb (length bytes) (4 + 8 * count + 4 * words) (omega arith))))

-- pairs that begin at `end` or later, each where the one before ended or later
abbrev pub Sorted : ℕ → List Pair → Type 0
Sorted end [] = Unit {0}
Sorted end (p ∷ ps) = (end ≤ p.offset) × Sorted (pair_end p) ps

-- of conditions none of which holds
first_of-none : (c : Bool × ImageFault) (cs : List (Bool × ImageFault)) → first_of (c ∷ cs) ≡ None → (c.0 ≡ false) × (first_of cs ≡ None)
first_of-none c cs h = go c.0 refl
  where
    go : (b : Bool) → c.0 ≡ b → (c.0 ≡ false) × (first_of cs ≡ None)
    go true t = let bad : Some c.1 ≡ None = sym (cond-true _ _ _ t) ∙ h in let z : ◌≡◌ {A = ℕ} 0 1 = cc in absurd (omega arith)
    go false t = (t, sym (cond-false _ _ _ t) ∙ h)

none_before : (cs ds : List (Bool × ImageFault)) → first_of (cs ++ ds) ≡ None → first_of cs ≡ None
none_before [] ds h = refl
none_before (c ∷ cs) ds h =
    let both : (c.0 ≡ false) × (first_of (cs ++ ds) ≡ None) = first_of-none c (cs ++ ds) h in cond-false _ _ _ both.0 ∙ none_before cs ds both.1

-- pairs without a fault end inside the n words
pub all-inside : (n at end : ℕ) (ps : List Pair) → first_of (pair_conditions n at end ps) ≡ None → Inside n ps
all-inside n at end [] h = tt
all-inside n at end (p ∷ ps) h =
    let order = first_of-none (eqb p.len 0 || ltb p.offset end, fault_at PairOrder at)
    ((ltb n (pair_end p), fault_at PairOutside at) ∷ pair_conditions n (at + 8) (pair_end p) ps) h in
    let range = first_of-none (ltb n (pair_end p), fault_at PairOutside at) (pair_conditions n (at + 8) (pair_end p) ps) order.1 in
    (ltb-false n (pair_end p) range.0, all-inside n (at + 8) (pair_end p) ps range.1)

-- they are in order too: each begins where the one before ended, or later
pub all-sorted : (n at end : ℕ) (ps : List Pair) → first_of (pair_conditions n at end ps) ≡ None → Sorted end ps
all-sorted n at end [] h = tt
all-sorted n at end (p ∷ ps) h =
    let order = first_of-none (eqb p.len 0 || ltb p.offset end, fault_at PairOrder at)
    ((ltb n (pair_end p), fault_at PairOutside at) ∷ pair_conditions n (at + 8) (pair_end p) ps) h in
    let range = first_of-none (ltb n (pair_end p), fault_at PairOutside at) (pair_conditions n (at + 8) (pair_end p) ps) order.1 in
    (ltb-false p.offset end (or_parts (eqb p.len 0) (ltb p.offset end) order.0).1, all-sorted n (at + 8) (pair_end p) ps range.1)

-- what holds of an image that is accepted: k bytes after the count are the pairs and the words that they take
pub record Accepted (n count k : ℕ) (ns : List ℕ) : Type 0 where
  pub pairs : 8 * count ≤ k
  pub inside : Inside n (first_pairs count ns)
  pub sorted : Sorted 0 (first_pairs count ns)
  pub words : k ≡ 8 * count + 4 * words_taken (first_pairs count ns)

pub accepted : (n count k : ℕ) (bytes ns : List ℕ) → words_of bytes ≡ count ∷ ns → length bytes ≡ 4 + k → Ok tt ≡ load_answer n bytes → Accepted n count k ns
accepted n count k bytes ns is long ok =
    let none : image_fault n bytes ≡ None = no-fault-from-ok (image_fault n bytes) ok in
    let counts = first_of-none (ltb 64 count, fault_at PairCount 0)
    ((ltb (length bytes) (4 + 8 * count), fault_at Length (length bytes)) ∷ pair_checks n (length bytes) count ns)
    (sym (found-counted n count k bytes ns is long) ∙ none) in
    let cut = first_of-none (ltb (length bytes) (4 + 8 * count), fault_at Length (length bytes)) (pair_checks n (length bytes) count ns) counts.1 in
    let pairs-fine : first_of (pair_conditions n 4 0 (first_pairs count ns)) ≡ None =
    none_before (pair_conditions n 4 0 (first_pairs count ns)) (last_check (length bytes) count ns) cut.1 in
    let last = first_of-none (not (eqb (length bytes) (4 + 8 * count + 4 * words_taken (first_pairs count ns))), fault_at Length (length bytes)) []
    (sym (first_of-append-none (pair_conditions n 4 0 (first_pairs count ns)) (last_check (length bytes) count ns) pairs-fine) ∙ cut.1) in
    let whole : 4 + 8 * count ≤ length bytes = ltb-false (length bytes) (4 + 8 * count) cut.0 in
    let exact : length bytes ≡ 4 + 8 * count + 4 * words_taken (first_pairs count ns) = eqb-true _ _ (not-false _ last.0) in
    record { pairs = omega arith; inside = all-inside n 4 0 (first_pairs count ns) pairs-fine; sorted = all-sorted n 4 0 (first_pairs count ns) pairs-fine; words = omega arith }
