-- The words of an image laid over those of a memory: word by word for a pair, and pair by pair.
use Rattle.std.proofs.Common.{◌≡◌, Some, take, slice_get, ℕ, ◌+◌, ◌*◌, ◌<◌, ◌≤◌, List, ◌∷◌, length, get_or, drop, set, is_ok, Ok, sym, ap, ◌∙◌, subst, arith}
use lib.Seq.{paste}
use Rattle.std.proofs.lemmas.List.Edits.{paste_more, length-paste}
use Rattle.std.proofs.lemmas.List.{length-take-le, get_or-take}
use Rattle.std.proofs.lemmas.Option.{slice_get-get_or}
use Rattle.std.proofs.lemmas.Bool.{cond-true, lt-ltb}
use Rattle.memory.specs.Bytes.{words_of}
use Rattle.memory.specs.Words.{written_words}
use Rattle.player.specs.declared.image.Pair.{Pair}
use Rattle.player.specs.Image.{first_pairs, pairs_of, image_words, pair_end, Inside, laid_over, load_answer, loaded_words}

-- word k of a pair is put; us and xs are the memory's words before and after
pub put_next : (ws us xs ns : List ℕ) (o l k w : ℕ) → k < l → l ≤ length ns → o + l ≤ length ws → us ≡ paste ws o ns k → Some w ≡ slice_get (take l ns) k
    → xs ≡ written_words us (o + k) w → xs ≡ paste ws o ns (k + 1)
put_next ws us xs ns o l k w less all fits put is written =
    let long : length us ≡ length ws = ap length put ∙ length-paste ws o ns k (omega arith) (omega arith) in
    let inside : o + k < length us = omega arith in
    let found : Some w ≡ Some (get_or (take l ns) k 0) = is ∙ slice_get-get_or (take l ns) k 0 (omega (arith, length-take-le l ns all)) in
    let same : w ≡ get_or (take l ns) k 0 = cc in
    written
    ∙ (cond-true _ _ _ (lt-ltb (o + k) (length us) inside)
    ∙ (ap (λ (ys : List ℕ). set ys (o + k) w) put
    ∙ (ap (set (paste ws o ns k) (o + k)) (same ∙ get_or-take l ns k 0 less) ∙ paste_more ws o ns k 0 (omega arith) (omega arith))))

-- what is known of the pairs that are left
module _ (p : Pair) (ps qs : List Pair) (is : ps ≡ p ∷ qs) where
  pub first-inside : (n : ℕ) → Inside n ps → (pair_end p ≤ n) × Inside n qs
  first-inside n h = subst (Inside n) is h

  pub first-laid : (ws us xs vs rs : List ℕ) → ws ≡ laid_over ps vs us → xs ≡ paste us p.offset vs p.len → rs ≡ drop p.len vs → ws ≡ laid_over qs rs xs
  first-laid ws us xs vs rs so put rest = so ∙ (ap (λ (xs : List Pair). laid_over xs vs us) is ∙ rw (sym put, sym rest))

-- a pair's words leave as many words as there were
pub still-inside : (us xs vs : List ℕ) (o l : ℕ) (ps : List Pair) → xs ≡ paste us o vs l → o + l ≤ length us → l ≤ length vs
    → Inside (length us) ps → Inside (length xs) ps
still-inside us xs vs o l ps put fits some h =
    let long : length us ≡ length xs = sym (ap length put ∙ length-paste us o vs l fits some) in
    subst (λ (n : ℕ). Inside n ps) long h

-- an image that is accepted, laid over by its pairs and the words after them
pub image-laid : (ws xs bytes ns : List ℕ) (count : ℕ) → words_of bytes ≡ count ∷ ns → Ok tt ≡ load_answer (length ws) bytes
    → xs ≡ laid_over (first_pairs count ns) (drop (2 * count) ns) ws → xs ≡ loaded_words ws bytes
image-laid ws xs bytes ns count is ok laid =
    let all : laid_over (pairs_of bytes) (image_words bytes) ws ≡ laid_over (first_pairs count ns) (drop (2 * count) ns) ws =
    ap (λ (ms : List ℕ). laid_over (first_pairs (get_or ms 0 0) (drop 1 ms)) (drop (2 * get_or ms 0 0) (drop 1 ms)) ws) is in
    laid ∙ (sym all ∙ sym (cond-true _ _ _ (ap is_ok (sym ok))))
