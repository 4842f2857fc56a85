-- Laws of the words in a row of bytes: their number, each word, and what writing one word leaves.
use Rattle.std.proofs.Common.{◌≡◌, ℕ, ◌+◌, ◌*◌, ◌/◌, ◌^◌, ◌<◌, ◌≤◌, ◌≢◌, suc, zero, List, [], ◌∷◌, ◌++◌, Some, None, slice_get, length, get_or, take, drop, set, sym, ap, ◌∙◌, ⊎_elim, refl, arith}
use Rattle.std.proofs.lemmas.Nat.{from_le_bytes-to_le_bytes_4}
use Rattle.std.proofs.lemmas.Grind.{common_steps}
use Rattle.std.proofs.lemmas.List.FromFn.{length-map-range_with_len, get_or-map-range_with_len}
use Rattle.std.proofs.lemmas.List.{length-set, get_or-set_same, get_or-set_other, ext_get_or}
use Rattle.std.proofs.lemmas.List.{drop-drop, get_or-take, get_or-drop}
use Rattle.std.proofs.lemmas.Option.{slice_get-get_or, slice_get_past}
use Rattle.std.proofs.lemmas.Bool.{cases_eq, cond_below}
use Rattle.std.specs.Int.{byte_at}
use Rattle.std.specs.Simd.{first_chunks}
use borrow.Rule.Slice.PartMut.{put_mid}
use Rattle.memory.specs.Bytes.{from_bytes, word_at, words_of, spare_bytes, with_word, written_bytes}
use Rattle.memory.specs.Words.{written_words}

pub length-words_of : (bs : List ℕ) → length (words_of bs) ≡ length bs / 4
unfolding words_of
length-words_of bs = length-map-range_with_len (word_at bs) 0 (length bs / 4)

pub ruleset sizes = (length-words_of)

pub get_or-words_of : (bs : List ℕ) (a : ℕ) → a < length bs / 4 → get_or (words_of bs) a 0 ≡ word_at bs a
unfolding words_of
get_or-words_of bs a h = get_or-map-range_with_len (word_at bs) 0 (length bs / 4) a a 0 h (omega arith)

-- a word is put together again from its four bytes
pub from_bytes-byte_at : (w : ℕ) → w < 2 ^ 32 → from_bytes (byte_at 0 w) (byte_at 1 w) (byte_at 2 w) (byte_at 3 w) ≡ w
from_bytes-byte_at w h = from_le_bytes-to_le_bytes_4 w h

-- four values at k and after it
abbrev four : List ℕ → ℕ → ℕ → ℕ → ℕ → ℕ → List ℕ
four bs k x0 x1 x2 x3 = set (set (set (set bs k x0) (k + 1) x1) (k + 2) x2) (k + 3) x3

get_or-four-other : (bs : List ℕ) (k j x0 x1 x2 x3 : ℕ) → j ≢ k → j ≢ k + 1 → j ≢ k + 2 → j ≢ k + 3 → get_or (four bs k x0 x1 x2 x3) j 0 ≡ get_or bs j 0
get_or-four-other bs k j x0 x1 x2 x3 n0 n1 n2 n3 = rw (get_or-set_other, get_or-set_other, get_or-set_other, get_or-set_other)

-- each value is found where it was put
get_or-four : (bs : List ℕ) (k x0 x1 x2 x3 : ℕ) → k + 3 < length bs →
    (get_or (four bs k x0 x1 x2 x3) k 0 ≡ x0) × (get_or (four bs k x0 x1 x2 x3) (k + 1) 0 ≡ x1)
    × (get_or (four bs k x0 x1 x2 x3) (k + 2) 0 ≡ x2) × (get_or (four bs k x0 x1 x2 x3) (k + 3) 0 ≡ x3)
get_or-four bs k x0 x1 x2 x3 h = (grind (arith, common_steps), grind (arith, common_steps), grind (arith, common_steps), grind (arith, common_steps))

pub length-with_word : (bs : List ℕ) (a w : ℕ) → length (with_word bs a w) ≡ length bs
length-with_word bs a w = simp length-set

pub spare-with_word : (bs : List ℕ) (a w : ℕ) → a < length bs / 4 → spare_bytes (with_word bs a w) ≡ spare_bytes bs
spare-with_word bs a w h = grind (arith, common_steps)

pub word_at-with_word-same : (bs : List ℕ) (a w : ℕ) → a < length bs / 4 → w < 2 ^ 32 → word_at (with_word bs a w) a ≡ w
word_at-with_word-same bs a w h f =
    let g = get_or-four bs (4 * a) (byte_at 0 w) (byte_at 1 w) (byte_at 2 w) (byte_at 3 w) (omega arith) in
    rw (g.0, g.1, g.2, g.3) (from_bytes-byte_at w f)

pub word_at-with_word-other : (bs : List ℕ) (a b w : ℕ) → b ≢ a → word_at (with_word bs a w) b ≡ word_at bs b
word_at-with_word-other bs a b w ne =
    let o : (j i : ℕ) → j < 4 → i ≡ 4 * b + j → get_or (with_word bs a w) i 0 ≡ get_or bs i 0 =
    λ j i l e. get_or-four-other bs (4 * a) i (byte_at 0 w) (byte_at 1 w) (byte_at 2 w) (byte_at 3 w) (omega arith) (omega arith) (omega arith) (omega arith) in
    rw (o 0 (4 * b) (omega arith) (omega arith), o 1 (4 * b + 1) (omega arith) (omega arith), o 2 (4 * b + 2) (omega arith) (omega arith), o 3 (4 * b + 3) (omega arith) (omega arith))

-- writing a word into the bytes writes it into the words
pub words_of-with_word : (bs : List ℕ) (a w : ℕ) → a < length bs / 4 → w < 2 ^ 32 → words_of (with_word bs a w) ≡ set (words_of bs) a w
words_of-with_word bs a w h f =
    let n : length (words_of (with_word bs a w)) ≡ length bs / 4 = length-words_of (with_word bs a w) ∙ ap (λ (k : ℕ). k / 4) (length-with_word bs a w) in
    let l : a < length (words_of bs) = rw length-words_of h in
    ext_get_or 0 (words_of (with_word bs a w)) (set (words_of bs) a w) (n ∙ sym (length-set (words_of bs) a w ∙ length-words_of bs))
    (λ b k. let inside : b < length bs / 4 = rw n at k in
    get_or-words_of (with_word bs a w) b (rw length-with_word inside)
    ∙ ⊎_elim
    (λ (e : b ≡ a). rw e (word_at-with_word-same bs a w h f ∙ sym (get_or-set_same (words_of bs) a w 0 l)))
    (λ (ne : b ≢ a). word_at-with_word-other bs a b w ne ∙ sym (get_or-set_other (words_of bs) a b w 0 ne ∙ get_or-words_of bs b inside))
    (cases_eq b a))

-- chunk a of a row
get_or-first_chunks : (bs : List ℕ) (k a : ℕ) (d : List ℕ) → a < k → get_or (first_chunks 4 k bs) a d ≡ take 4 (drop (4 * a) bs)
get_or-first_chunks bs zero a d h = absurd (omega arith)
get_or-first_chunks bs (suc k) zero d h = refl
get_or-first_chunks bs (suc k) (suc a) d h = get_or-first_chunks (drop 4 bs) k a d (omega arith) ∙ (let n : 4 + 4 * a ≡ 4 * suc a = omega arith in ap (take 4) (drop-drop (4 * a) 4 bs ∙ ap (λ (i : ℕ). drop i bs) n))

-- a chunk's bytes make its word
pub found-word : (bs : List ℕ) (cs : List (List ℕ)) (ys : List ℕ) (a w : ℕ) → cs ≡ first_chunks 4 (length bs / 4) bs → length cs ≡ length bs / 4
    → a < length cs → ys ≡ get_or cs a ys → w ≡ from_bytes (get_or ys 0 0) (get_or ys 1 0) (get_or ys 2 0) (get_or ys 3 0)
    → Some w ≡ slice_get (words_of bs) a
found-word bs cs ys a w e n h f g =
    let y : ys ≡ take 4 (drop (4 * a) bs) = f ∙ (ap (λ (xs : List (List ℕ)). get_or xs a ys) e ∙ get_or-first_chunks bs (length bs / 4) a ys (omega arith)) in
    let inside : a < length bs / 4 = omega arith in
    let at : (i : ℕ) → i < 4 → get_or ys i 0 ≡ get_or bs (4 * a + i) 0 = λ i l. rw y (get_or-take 4 (drop (4 * a) bs) i 0 l ∙ get_or-drop (4 * a) bs i 0) in
    let first : 4 * a + 0 ≡ 4 * a = omega arith in
    let word : w ≡ word_at bs a = g ∙ rw (at 0 (omega arith), first, at 1 (omega arith), at 2 (omega arith), at 3 (omega arith)) in
    sym (slice_get-get_or (words_of bs) a 0 (rw length-words_of inside) ∙ ap Some (get_or-words_of bs a inside ∙ sym word))

pub no-word : (bs : List ℕ) (n a : ℕ) → n ≡ length bs / 4 → n ≤ a → None ≡ slice_get (words_of bs) a
no-word bs n a e h = sym (slice_get_past (words_of bs) a (rw (length-words_of bs) (omega arith)))

-- four values in the place of four others, at once and one by one
put-four : (k : ℕ) (bs : List ℕ) (x0 x1 x2 x3 : ℕ) → k + 4 ≤ length bs
    → take k bs ++ x0 ∷ x1 ∷ x2 ∷ x3 ∷ drop 4 (drop k bs) ≡ set (set (set (set bs k x0) (suc k) x1) (suc (suc k)) x2) (suc (suc (suc k))) x3
put-four zero (b0 ∷ b1 ∷ b2 ∷ b3 ∷ bs) x0 x1 x2 x3 h = refl
put-four zero (b0 ∷ b1 ∷ b2 ∷ []) x0 x1 x2 x3 h = absurd (omega arith)
put-four zero (b0 ∷ b1 ∷ []) x0 x1 x2 x3 h = absurd (omega arith)
put-four zero (b0 ∷ []) x0 x1 x2 x3 h = absurd (omega arith)
put-four zero [] x0 x1 x2 x3 h = absurd (omega arith)
put-four (suc k) (b ∷ bs) x0 x1 x2 x3 h = ap (λ (xs : List ℕ). b ∷ xs) (put-four k bs x0 x1 x2 x3 (omega arith))
put-four (suc k) [] x0 x1 x2 x3 h = absurd (omega arith)

-- a word's bytes in the place of word a: xs is the row after
pub record Put (bs xs : List ℕ) (a w : ℕ) : Type 0 where
  pub row : xs ≡ written_bytes bs a w
  pub words : words_of xs ≡ written_words (words_of bs) a w
  pub beside : spare_bytes xs ≡ spare_bytes bs

pub put-word : (bs ys : List ℕ) (a n w : ℕ) → a < length bs / 4 → n ≡ 4 → w < 2 ^ 32 → ys ≡ byte_at 0 w ∷ byte_at 1 w ∷ byte_at 2 w ∷ byte_at 3 w ∷ []
    → Put bs (put_mid (4 * a) n bs ys) a w
put-word bs ys a n w h long f e =
    let e1 : 4 * a + 1 ≡ suc (4 * a) = omega arith in
    let e2 : 4 * a + 2 ≡ suc (suc (4 * a)) = omega arith in
    let e3 : 4 * a + 3 ≡ suc (suc (suc (4 * a))) = omega arith in
    let put : put_mid (4 * a) n bs ys ≡ with_word bs a w =
    rw (e, long, e1, e2, e3) (put-four (4 * a) bs (byte_at 0 w) (byte_at 1 w) (byte_at 2 w) (byte_at 3 w) (omega arith)) in
    record {
      row = put ∙ cond_below a (length bs / 4) (with_word bs a w) bs h;
      words = ap words_of put ∙ (words_of-with_word bs a w h f ∙ cond_below a (length (words_of bs)) (set (words_of bs) a w) (words_of bs) (rw length-words_of h));
      beside = ap spare_bytes put ∙ spare-with_word bs a w h;
    }
