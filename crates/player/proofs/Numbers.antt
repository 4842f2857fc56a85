-- The numbers of some bytes, taken off one at a time and two at a time.
use Rattle.std.proofs.Common.{◌≡◌, ℕ, zero, suc, ◌+◌, ◌-◌, ◌*◌, ◌/◌, ◌<◌, ◌≤◌, List, [], ◌∷◌, length, get_or, take, drop, sym, refl, ap, ◌∙◌, arith}
use Rattle.std.proofs.lemmas.List.FromFn.{length-map-range_with_len, get_or-map-range_with_len}
use Rattle.std.proofs.lemmas.List.{ext_get_or, get_or-drop, get_or-take, drop-drop, drop-take, length-drop, length-take-le, take_rest}
use Rattle.memory.specs.Bytes.{word_at, words_of}
use Rattle.player.specs.Image.{in_pairs, first_pairs}

pub length-words_of : (bs : List ℕ) → length (words_of bs) ≡ length bs / 4
unfolding words_of
length-words_of bs = length-map-range_with_len (word_at bs) 0 (length bs / 4)

get_or-words_of : (bs : List ℕ) (k : ℕ) → k < length bs / 4 → get_or (words_of bs) k 0 ≡ word_at bs k
unfolding words_of
get_or-words_of bs k h = get_or-map-range_with_len (word_at bs) 0 (length bs / 4) k k 0 h (omega arith)

-- number k past the first four bytes is number k + 1
word_at-drop : (bs : List ℕ) (k : ℕ) → word_at (drop 4 bs) k ≡ word_at bs (suc k)
word_at-drop bs k =
    let at : (j i : ℕ) → i ≡ 4 + j → get_or (drop 4 bs) j 0 ≡ get_or bs i 0 = λ j i e. get_or-drop 4 bs j 0 ∙ ap (λ (m : ℕ). get_or bs m 0) (sym e) in
    rw (at (4 * k) (4 * suc k) (omega arith), at (4 * k + 1) (4 * suc k + 1) (omega arith), at (4 * k + 2) (4 * suc k + 2) (omega arith), at (4 * k + 3) (4 * suc k + 3) (omega arith))

pub first-number : (bs : List ℕ) → 4 ≤ length bs → words_of bs ≡ word_at bs 0 ∷ words_of (drop 4 bs)
first-number bs h =
    let count : length (words_of bs) ≡ suc (length (words_of (drop 4 bs))) = rw (length-words_of bs, length-words_of (drop 4 bs), length-drop 4 bs) (omega arith) in
    ext_get_or 0 (words_of bs) (word_at bs 0 ∷ words_of (drop 4 bs)) count (each bs count)
  where
    each : (bs : List ℕ) → length (words_of bs) ≡ suc (length (words_of (drop 4 bs))) → (k : ℕ) → k < length (words_of bs)
        → get_or (words_of bs) k 0 ≡ get_or (word_at bs 0 ∷ words_of (drop 4 bs)) k 0
    each bs count zero less = get_or-words_of bs 0 (rw length-words_of at less)
    each bs count (suc k) less =
        get_or-words_of bs (suc k) (rw length-words_of at less)
        ∙ sym (get_or-words_of (drop 4 bs) k (omega (arith, length-words_of (drop 4 bs))) ∙ word_at-drop bs k)

-- the same, where the rest is cut off as a slice pattern does
pub number-off : (bs : List ℕ) (w : ℕ) → 4 ≤ length bs → w ≡ word_at bs 0
    → (words_of bs ≡ w ∷ words_of (take (length bs - 4) (drop 4 bs))) × (length bs ≡ 4 + length (take (length bs - 4) (drop 4 bs)))
number-off bs w h e = rw (take_rest bs 4, e) (first-number bs h, rw (length-drop 4 bs) (omega arith))

pub pair-off : (bs : List ℕ) (o l : ℕ) → 8 ≤ length bs → o ≡ word_at bs 0 → l ≡ word_at bs 1
    → (words_of bs ≡ o ∷ l ∷ words_of (take (length bs - 8) (drop 8 bs))) × (length bs ≡ 8 + length (take (length bs - 8) (drop 8 bs)))
pair-off bs o l h e f =
    let second : words_of (drop 4 bs) ≡ word_at bs 1 ∷ words_of (drop 8 bs) =
    first-number (drop 4 bs) (rw (length-drop 4 bs) (omega arith))
    ∙ (ap (λ (w : ℕ). w ∷ words_of (drop 4 (drop 4 bs))) (word_at-drop bs 0) ∙ ap (λ (xs : List ℕ). word_at bs 1 ∷ words_of xs) (drop-drop 4 4 bs)) in
    rw (take_rest bs 8, e, f) (first-number bs (omega arith) ∙ ap (λ (ns : List ℕ). word_at bs 0 ∷ ns) second, rw (length-drop 8 bs) (omega arith))

-- the numbers past the first m
pub words_of-drop : (m : ℕ) (bs : List ℕ) → 4 * m ≤ length bs → words_of (drop (4 * m) bs) ≡ drop m (words_of bs)
words_of-drop zero bs h = refl
words_of-drop (suc m) bs h =
    let four : 4 * suc m ≡ 4 + 4 * m = omega arith in
    let later : words_of (drop (4 * m) (drop 4 bs)) ≡ drop m (words_of (drop 4 bs)) = words_of-drop m (drop 4 bs) (rw (length-drop 4 bs) (omega arith)) in
    ap (λ (k : ℕ). words_of (drop k bs)) four
    ∙ (ap words_of (sym (drop-drop (4 * m) 4 bs)) ∙ (later ∙ sym (ap (drop (suc m)) (first-number bs (omega arith)))))

-- and the first m
pub words_of-take : (m : ℕ) (bs : List ℕ) → 4 * m ≤ length bs → words_of (take (4 * m) bs) ≡ take m (words_of bs)
unfolding words_of
words_of-take zero bs h = refl
words_of-take (suc m) bs h =
    let four : 4 * suc m ≡ 4 + 4 * m = omega arith in
    let front = take (4 + 4 * m) bs in
    let first : word_at front 0 ≡ word_at bs 0 = rw (get_or-take (4 + 4 * m) bs 0 0 (omega arith), get_or-take (4 + 4 * m) bs 1 0 (omega arith), get_or-take (4 + 4 * m) bs 2 0 (omega arith), get_or-take (4 + 4 * m) bs 3 0 (omega arith)) in
    let later : words_of (take (4 * m) (drop 4 bs)) ≡ take m (words_of (drop 4 bs)) = words_of-take m (drop 4 bs) (rw (length-drop 4 bs) (omega arith)) in
    ap (λ (k : ℕ). words_of (take k bs)) four
    ∙ (first-number front (omega (arith, length-take-le (4 + 4 * m) bs (omega arith)))
    ∙ (ap (λ (w : ℕ). w ∷ words_of (drop 4 front)) first
    ∙ (ap (λ (l : List ℕ). word_at bs 0 ∷ words_of l) (drop-take 4 (4 * m) bs)
    ∙ (ap (λ (l : List ℕ). word_at bs 0 ∷ l) later ∙ sym (ap (take (suc m)) (first-number bs (omega arith)))))))

-- the first count pairs of some bytes, and the numbers past them
pub pairs-of-front : (count : ℕ) (bs : List ℕ) → 8 * count ≤ length bs → in_pairs (words_of (take (8 * count) bs)) ≡ first_pairs count (words_of bs)
pairs-of-front count bs h =
    let twice : 8 * count ≡ 4 * (2 * count) = omega arith in
    ap (λ (k : ℕ). in_pairs (words_of (take k bs))) twice ∙ ap in_pairs (words_of-take (2 * count) bs (omega arith))

pub words-after-pairs : (count : ℕ) (bs : List ℕ) → 8 * count ≤ length bs → words_of (drop (8 * count) bs) ≡ drop (2 * count) (words_of bs)
words-after-pairs count bs h =
    let twice : 8 * count ≡ 4 * (2 * count) = omega arith in
    ap (λ (k : ℕ). words_of (drop k bs)) twice ∙ words_of-drop (2 * count) bs (omega arith)

-- too few bytes for a pair
few-numbers : (ns : List ℕ) → length ns < 2 → in_pairs ns ≡ []
few-numbers [] h = refl
few-numbers (o ∷ []) h = refl
few-numbers (o ∷ l ∷ ns) h = absurd (omega arith)

pub no-pair : (bs : List ℕ) → length bs < 8 → in_pairs (words_of bs) ≡ []
no-pair bs h = few-numbers (words_of bs) (rw length-words_of (omega arith))

-- a pair has eight bytes
length-in_pairs-le : (ns : List ℕ) → 2 * length (in_pairs ns) ≤ length ns
length-in_pairs-le [] = omega arith
length-in_pairs-le (o ∷ []) = omega arith
length-in_pairs-le (o ∷ l ∷ ns) = omega (arith, length-in_pairs-le ns)

pub length-pairs-le : (bs : List ℕ) → 8 * length (in_pairs (words_of bs)) ≤ length bs
length-pairs-le bs = omega (arith, length-in_pairs-le (words_of bs), length-words_of bs)
