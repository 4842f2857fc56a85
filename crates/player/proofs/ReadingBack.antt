-- Words laid over by sorted pairs: each pair's words lie where it says, and all others stay.
use Rattle.std.proofs.Common.{◌≡◌, ℕ, ◌+◌, ◌-◌, ◌*◌, ◌<◌, ◌≤◌, List, [], ◌∷◌, length, get_or, take, drop, is_ok, Ok, sym, refl, ap, ◌∙◌, subst, ⊎_elim, arith}
use lib.Seq.{paste}
use Rattle.std.proofs.lemmas.List.Edits.{take-paste, drop-paste}
use Rattle.std.proofs.lemmas.List.{length-drop, length-take-le, take-take, take-append-le, drop_at, drop-take, get_or-drop, get_or-take}
use Rattle.std.proofs.lemmas.List.Sums.{sum_by-cons}
use Rattle.std.proofs.lemmas.Bool.{cond-true, cases_lt}
use Rattle.memory.specs.Bytes.{word_at, words_of}
use Rattle.player.specs.declared.image.Pair.{Pair}
use Rattle.player.specs.Image.{first_pairs, pairs_of, image_words, pair_end, Inside, words_taken, laid_over, load_answer, loaded_words, HoldsPairs, OutsidePairs}
use Rattle.player.proofs.Numbers.{length-words_of, first-number}
use Rattle.player.proofs.Checking.{Sorted, has-count, accepted}
use Rattle.player.proofs.Laying.{still-inside}

-- what a list has below e is what its first e elements have there
get_or-below : (xs ys : List ℕ) (e a : ℕ) → a < e → take e xs ≡ take e ys → get_or xs a 0 ≡ get_or ys a 0
get_or-below xs ys e a less same = sym (get_or-take e xs a 0 less) ∙ (ap (λ (zs : List ℕ). get_or zs a 0) same ∙ get_or-take e ys a 0 less)

-- and past e, what it has without them
get_or-past-of : (xs ys : List ℕ) (e a : ℕ) → e ≤ a → drop e xs ≡ drop e ys → get_or xs a 0 ≡ get_or ys a 0
get_or-past-of xs ys e a past same =
    let at : e + (a - e) ≡ a = omega arith in
    ap (λ (k : ℕ). get_or xs k 0) (sym at)
    ∙ (sym (get_or-drop e xs (a - e) 0)
    ∙ (ap (λ (zs : List ℕ). get_or zs (a - e) 0) same ∙ (get_or-drop e ys (a - e) 0 ∙ ap (λ (k : ℕ). get_or ys k 0) at)))

take_below : (xs ys : List ℕ) (e d : ℕ) → d ≤ e → take e xs ≡ take e ys → take d xs ≡ take d ys
take_below xs ys e d less same = sym (take-take d e xs less) ∙ (ap (take d) same ∙ take-take d e ys less)

-- a part pasted at o leaves what lies before it
take-paste-before : (ws vs : List ℕ) (e o l : ℕ) → e ≤ o → o ≤ length ws → l ≤ length vs → take e (paste ws o vs l) ≡ take e ws
take-paste-before ws vs e o l less fits some =
    let front : take o (paste ws o vs l) ≡ take o ws =
    sym (take-take o (o + l) (paste ws o vs l) (omega arith))
    ∙ (ap (take o) (take-paste ws o vs l fits some)
    ∙ (take-append-le o (take o ws) (take l vs) (omega (arith, length-take-le o ws fits)) ∙ take-take o o ws (omega arith))) in
    take_below (paste ws o vs l) ws o e less front

-- the rest of the words after the first pair took its own
rest_some : (p : Pair) (ps : List Pair) (vs : List ℕ) → words_taken (p ∷ ps) ≤ length vs → (p.len ≤ length vs) × (words_taken ps ≤ length (drop p.len vs))
rest_some p ps vs some =
    let first : words_taken (p ∷ ps) ≡ p.len + words_taken ps = sum_by-cons (λ (q : Pair). q.len) p ps in
    (omega arith, rw (length-drop p.len vs) (omega arith))

-- sorted pairs touch nothing before they begin
pub laid-before : (e : ℕ) (ps : List Pair) (vs ws : List ℕ) → Sorted e ps → Inside (length ws) ps → words_taken ps ≤ length vs
    → take e (laid_over ps vs ws) ≡ take e ws
laid-before e [] vs ws sorted inside some = refl
laid-before e (p ∷ ps) vs ws sorted inside some =
    let next = rest_some p ps vs some in
    let put = paste ws p.offset vs p.len in
    let fits : p.offset + p.len ≤ length ws = inside.0 in
    let later : take (pair_end p) (laid_over ps (drop p.len vs) put) ≡ take (pair_end p) put =
    laid-before (pair_end p) ps (drop p.len vs) put sorted.1 (still-inside ws put vs p.offset p.len ps refl fits next.0 inside.1) next.1 in
    take_below (laid_over ps (drop p.len vs) put) put (pair_end p) e (omega (arith, sorted.0)) later
    ∙ take-paste-before ws vs e p.offset p.len sorted.0 (omega arith) next.0

-- the words of each pair lie where it says
pub laid-holds : (e : ℕ) (ps : List Pair) (vs ws : List ℕ) → Sorted e ps → Inside (length ws) ps → words_taken ps ≤ length vs
    → HoldsPairs ps vs (laid_over ps vs ws)
laid-holds e [] vs ws sorted inside some = tt
laid-holds e (p ∷ ps) vs ws sorted inside some =
    let next = rest_some p ps vs some in
    let o = p.offset in
    let l = p.len in
    let put = paste ws o vs l in
    let all = laid_over ps (drop l vs) put in
    let fits : o + l ≤ length ws = inside.0 in
    let still = still-inside ws put vs o l ps refl fits next.0 inside.1 in
    let begins : o ≤ length ws = omega arith in (
      sym (drop-take o l all)
          ∙ (ap (drop o) (laid-before (o + l) ps (drop l vs) put sorted.1 still next.1)
          ∙ (ap (drop o) (take-paste ws o vs l begins next.0) ∙ drop_at (take o ws) (take l vs) o (length-take-le o ws begins))),
      laid-holds (o + l) ps (drop l vs) put sorted.1 still next.1,
    )

-- and no other word changes
pub laid-outside : (a : ℕ) (ps : List Pair) (vs ws : List ℕ) → Inside (length ws) ps → words_taken ps ≤ length vs → OutsidePairs a ps
    → get_or (laid_over ps vs ws) a 0 ≡ get_or ws a 0
laid-outside a [] vs ws inside some outside = refl
laid-outside a (p ∷ ps) vs ws inside some outside =
    let next = rest_some p ps vs some in
    let o = p.offset in
    let l = p.len in
    let put = paste ws o vs l in
    let fits : o + l ≤ length ws = inside.0 in
    let begins : o ≤ length ws = omega arith in
    let still = still-inside ws put vs o l ps refl fits next.0 inside.1 in
    laid-outside a ps (drop l vs) put still next.1 outside.1
    ∙ ⊎_elim
    (λ (before : a < o). get_or-below put ws o a before (take-paste-before ws vs o o l (omega arith) begins next.0))
    (λ (past : o + l ≤ a). get_or-past-of put ws (o + l) a past (drop-paste ws o vs l begins next.0))
    outside.0

-- the pairs of an image that is accepted: inside the memory, sorted, and with words enough
abbrev Fine : ℕ → List Pair → List ℕ → Type 0
Fine n ps vs = Inside n ps × Sorted 0 ps × (words_taken ps ≤ length vs)

accepted-pairs : (n : ℕ) (bytes : List ℕ) → Ok tt ≡ load_answer n bytes → Fine n (pairs_of bytes) (image_words bytes)
accepted-pairs n bytes ok =
    let long : 4 ≤ length bytes = ⊎_elim (λ (short : length bytes < 4). absurd (has-count n bytes ok short)) (λ (h : 4 ≤ length bytes). h) (cases_lt (length bytes) 4) in
    let rest = drop 4 bytes in
    let ns = words_of rest in
    let count = word_at bytes 0 in
    let is : words_of bytes ≡ count ∷ ns = first-number bytes long in
    let fine = accepted n count (length rest) bytes ns is (rw (length-drop 4 bytes) (omega arith)) ok in
    let some : words_taken (first_pairs count ns) ≤ length (drop (2 * count) ns) = rw (length-drop (2 * count) ns, length-words_of rest) (omega (arith, fine.words)) in
    subst (λ (ms : List ℕ). Fine n (first_pairs (get_or ms 0 0) (drop 1 ms)) (drop (2 * get_or ms 0 0) (drop 1 ms))) (sym is) (fine.inside, fine.sorted, some)

-- the words after an image was loaded, by its answer
loaded-if-ok : (ws bytes : List ℕ) → Ok tt ≡ load_answer (length ws) bytes → loaded_words ws bytes ≡ laid_over (pairs_of bytes) (image_words bytes) ws
loaded-if-ok ws bytes ok = cond-true _ _ _ (ap is_ok (sym ok))

pub loaded-holds : (ws bytes : List ℕ) → Ok tt ≡ load_answer (length ws) bytes → HoldsPairs (pairs_of bytes) (image_words bytes) (loaded_words ws bytes)
loaded-holds ws bytes ok =
    let fine = accepted-pairs (length ws) bytes ok in
    subst (HoldsPairs (pairs_of bytes) (image_words bytes)) (sym (loaded-if-ok ws bytes ok)) (laid-holds 0 (pairs_of bytes) (image_words bytes) ws fine.1 fine.0 fine.2)

pub loaded-outside : (ws bytes : List ℕ) → Ok tt ≡ load_answer (length ws) bytes → (a : ℕ) → OutsidePairs a (pairs_of bytes)
    → get_or (loaded_words ws bytes) a 0 ≡ get_or ws a 0
loaded-outside ws bytes ok a outside =
    let fine = accepted-pairs (length ws) bytes ok in
    ap (λ (xs : List ℕ). get_or xs a 0) (loaded-if-ok ws bytes ok) ∙ laid-outside a (pairs_of bytes) (image_words bytes) ws fine.0 fine.2 outside
