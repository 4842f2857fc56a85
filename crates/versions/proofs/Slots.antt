-- The four slots of a list of processors: those past its end hold 0.
use Rattle.std.proofs.Common.{◌≡◌, ℕ, zero, suc, ◌+◌, ◌-◌, ◌<◌, ◌≤◌, cond, ltb, List, [], ◌∷◌, ◌++◌, length, get_or, take, drop, set, replicate, sym, refl, ap, ◌∙◌, subst, ⊎_elim, arith, sub-one, get_or-drop, length-append, length-drop}
use Rattle.std.proofs.lemmas.Bool.{cond-true, cond-false, lt-ltb, le-ltb, cases_lt, cases_eq}
use Rattle.std.proofs.lemmas.List.{ext_get_or, get_or-replicate, get_or-set_other, length-replicate, set-get_or, drop-append-le, take-append-le, take-set-le}
use Rattle.std.proofs.lemmas.Grind.{get_or-set_at}
use Rattle.versions.specs.Copies.{len_back}

-- a slot that is kept or put to 0 leaves the first k as they are
pub first-kept : (k i : ℕ) (row : List ℕ) (d : ℕ) → take k (set row i (cond (ltb i k) (get_or row i d) 0)) ≡ take k row
first-kept k i row d =
    ⊎_elim
    (λ (h : i < k). ap (λ (x : ℕ). take k (set row i x)) (cond-true (ltb i k) (get_or row i d) 0 (lt-ltb i k h)) ∙ ap (take k) (set-get_or row i d))
    (λ (h : k ≤ i). take-set-le k row i (cond (ltb i k) (get_or row i d) 0) h)
    (cases_lt i k)

-- with this slot put to 0, unless it is of the first k, the others up to it are
pub rest-free : (k i x d : ℕ) (row : List ℕ) → i < length row → x ≡ cond (ltb i k) (get_or row i d) 0 → ((j : ℕ) → k ≤ j → j < i → get_or row j 0 ≡ 0) → (j : ℕ) → k ≤ j → j < i + 1 → get_or (set row i x) j 0 ≡ 0
rest-free k i x d row within is before j low high =
    ⊎_elim
    (λ (e : j ≡ i). get_or-set_at row i j x 0 e within ∙ (is ∙ cond-false (ltb i k) (get_or row i d) 0 (le-ltb i k (omega (arith, e, low)))))
    (λ (e : j ≡ i → ⊥). get_or-set_other row i j x 0 e ∙ before j low (omega (arith, e, high)))
    (cases_eq j i)

-- the slots from k on, where each is 0
pub free-from : (k : ℕ) (row : List ℕ) → k ≤ 4 → length row ≡ 4 → ((j : ℕ) → k ≤ j → j < 4 → get_or row j 0 ≡ 0) → drop k row ≡ replicate (4 - k) 0
free-from k row few four each = ext_get_or 0 (drop k row) (replicate (4 - k) 0) long at
  where
    long : length (drop k row) ≡ length {A = ℕ} (replicate (4 - k) 0)
    long = length-drop k row ∙ (ap (λ (n : ℕ). n - k) four ∙ sym (length-replicate (4 - k) 0))

    at : (i : ℕ) → i < length (drop k row) → get_or (drop k row) i 0 ≡ get_or (replicate (4 - k) 0) i 0
    at i h =
        let low : i < 4 - k = omega (arith, h, length-drop k row, four) in
        get_or-drop k row i 0 ∙ (each (k + i) (omega arith) (omega (arith, low, few)) ∙ sym (get_or-replicate (4 - k) i 0 0 low))

-- the slots after the first has gone: each takes what the next held, and the last takes x
abbrev pub moved : List ℕ → ℕ → ℕ → ℕ → ℕ → List ℕ
moved row d e f x =
    let one = set row 0 (get_or row 1 d) in
    let two = set one 1 (get_or one 2 e) in
    set (set two 2 (get_or two 3 f)) 3 x

moved-is : (row : List ℕ) (d e f : ℕ) → length row ≡ 4 → moved row d e f 0 ≡ drop 1 row ++ 0 ∷ []
moved-is [] d e f h = absurd (omega (arith, h))
moved-is (a ∷ []) d e f h = absurd (omega (arith, h))
moved-is (a ∷ b ∷ []) d e f h = absurd (omega (arith, h))
moved-is (a ∷ b ∷ c ∷ []) d e f h = absurd (omega (arith, h))
moved-is (a ∷ b ∷ c ∷ g ∷ []) d e f h = refl
moved-is (a ∷ b ∷ c ∷ g ∷ i ∷ l) d e f h = absurd (omega (arith, h))

shorter-free : (row : List ℕ) (len : ℕ) → 0 < len → len ≤ 4 → length row ≡ 4 → drop len row ≡ replicate (4 - len) 0 → drop (len - 1) (drop 1 row ++ 0 ∷ []) ≡ replicate (4 - (len - 1)) 0
shorter-free [] len some few h free = absurd (omega (arith, h))
shorter-free (a ∷ l) zero some few h free = absurd (omega (arith, some))
shorter-free (a ∷ l) (suc zero) some few h free = ap (λ (r : List ℕ). r ++ 0 ∷ []) free
shorter-free (a ∷ l) (suc (suc zero)) some few h free = drop-append-le 1 l (0 ∷ []) (omega (arith, h)) ∙ ap (λ (r : List ℕ). r ++ 0 ∷ []) free
shorter-free (a ∷ l) (suc (suc (suc zero))) some few h free = drop-append-le 2 l (0 ∷ []) (omega (arith, h)) ∙ ap (λ (r : List ℕ). r ++ 0 ∷ []) free
shorter-free (a ∷ l) (suc (suc (suc (suc zero)))) some few h free = drop-append-le 3 l (0 ∷ []) (omega (arith, h)) ∙ ap (λ (r : List ℕ). r ++ 0 ∷ []) free
shorter-free (a ∷ l) (suc (suc (suc (suc (suc n))))) some few h free = absurd (omega (arith, few))

shorter-first : (row : List ℕ) (len : ℕ) → 0 < len → len ≤ 4 → length row ≡ 4 → take (len - 1) (drop 1 row ++ 0 ∷ []) ≡ drop 1 (take len row)
shorter-first [] len some few h = absurd (omega (arith, h))
shorter-first (a ∷ l) zero some few h = absurd (omega (arith, some))
shorter-first (a ∷ l) (suc n) some few h = rw sub-one (take-append-le n l (0 ∷ []) (omega (arith, few, h)))

-- a list of which the first has gone
pub record Moved (row : List ℕ) (len : ℕ) (new : List ℕ) : Type 0 where
  pub four : length new ≡ 4
  pub free : drop (len - 1) new ≡ replicate (4 - (len - 1)) 0
  pub first : take (len - 1) new ≡ drop 1 (take len row)

pub moved-kept : (row : List ℕ) (len d e f x : ℕ) → x ≡ 0 → 0 < length (take len row) → len ≤ 4 → length row ≡ 4 → drop len row ≡ replicate (4 - len) 0 → Moved row len (moved row d e f x)
moved-kept row len d e f x none some few four free = subst (Moved row len) (sym (moved-is row d e f four) ∙ ap (moved row d e f) (sym none)) record {
  four = omega (arith, four, length-append (drop 1 row) (0 ∷ []), length-drop 1 row);
  free = shorter-free row len low few four free;
  first = shorter-first row len low few four;
}
  where
    low : 0 < len
    low = omega (arith, some, len_back row len few four)
