-- What an image means. It is a list of numbers, each in four bytes, lowest first: how many pairs there are, the pairs,
-- and the words. A pair is an offset and a length, and takes that many of the words, in their order.
use Rattle.std.specs.Prelude.{◌≡◌, ℕ, ◌+◌, ◌*◌, ◌<◌, ◌≤◌, Bool, cond, not, ◌||◌, ◌⊎◌, List, [], ◌∷◌, ◌++◌, length, take, drop, is_ok, sum_by, Option, Result, ◌==◌, nat_lt, slice_index}
use Rattle.std.proofs.Math.Seq.{paste}
use Rattle.std.specs.List.{AllByRecursion}
use Rattle.memory.specs.Bytes.{words_of}
use Rattle.versions.specs.Conditions.{first_of, answer_unless}
use Rattle.player.specs.declared.fault.ImageWhy.{ImageWhy}
use Rattle.player.specs.declared.fault.ImageWhy.TheVariants.{Length, PairCount, PairOrder, PairOutside}
use Rattle.player.specs.declared.image.Pair.{Pair}
use Rattle.player.specs.Faults.{ImageFault}

-- the number of pairs, as the first number says
abbrev pub pair_count : List ℕ → ℕ
pair_count bytes = slice_index (words_of bytes) 0

-- numbers two by two
abbrev pub in_pairs : List ℕ → List Pair
in_pairs [] = []
in_pairs (o ∷ []) = []
in_pairs (o ∷ l ∷ ns) = record { offset = o; len = l } ∷ in_pairs ns

-- the first k pairs of some numbers
abbrev pub first_pairs : ℕ → List ℕ → List Pair
first_pairs k ns = in_pairs (take (2 * k) ns)

-- the pairs, and the words after them
abbrev pub pairs_of : List ℕ → List Pair
pairs_of bytes = first_pairs (pair_count bytes) (drop 1 (words_of bytes))

abbrev pub image_words : List ℕ → List ℕ
image_words bytes = drop (2 * pair_count bytes) (drop 1 (words_of bytes))

-- where a pair ends
abbrev pub pair_end : Pair → ℕ
pair_end p = p.offset + p.len

-- all pairs end inside n words
abbrev pub Inside : ℕ → List Pair → Type 0
Inside n ps = AllByRecursion (λ p. pair_end p ≤ n) ps

-- how many words some pairs take
abbrev pub words_taken : List Pair → ℕ
words_taken ps = sum_by (λ p. p.len) ps

-- how many bytes the image should have
abbrev pub bytes_counted : List ℕ → ℕ
bytes_counted bytes = 4 + 8 * pair_count bytes + 4 * words_taken (pairs_of bytes)

abbrev pub fault_at : ImageWhy → ℕ → ImageFault
fault_at why at = record { why = why; place = at }

-- the conditions under which pairs are refused over n words, pair by pair; the first of them lies at a byte, and the
-- pair before it has an end
abbrev pub pair_conditions : ℕ → ℕ → ℕ → List Pair → List (Bool × ImageFault)
pair_conditions n at end [] = []
pair_conditions n at end (p ∷ ps) =
    (p.len == 0 || nat_lt p.offset end, fault_at PairOrder at)
    ∷ (nat_lt n (pair_end p), fault_at PairOutside at)
    ∷ pair_conditions n (at + 8) (pair_end p) ps

-- the conditions under which an image is refused over n words, in the order in which they are checked
abbrev pub image_conditions : ℕ → List ℕ → List (Bool × ImageFault)
image_conditions n bytes =
    (nat_lt (length bytes) 4, fault_at Length (length bytes))
    ∷ (nat_lt 64 (pair_count bytes), fault_at PairCount 0)
    ∷ (nat_lt (length bytes) (4 + 8 * pair_count bytes), fault_at Length (length bytes))
    ∷ (pair_conditions n 4 0 (pairs_of bytes) ++ (not (length bytes == bytes_counted bytes), fault_at Length (length bytes)) ∷ [])

unfoldable pub image_fault : ℕ → List ℕ → Option ImageFault
image_fault n bytes = first_of (image_conditions n bytes)

-- the words ws after the pairs took their words from vs, one pair after another
abbrev pub laid_over : List Pair → List ℕ → List ℕ → List ℕ
laid_over [] vs ws = ws
laid_over (p ∷ ps) vs ws = laid_over ps (drop p.len vs) (paste ws p.offset vs p.len)

-- loading an image over n words: refused with its fault
abbrev pub load_answer : ℕ → List ℕ → Result (Unit {0}) ImageFault
load_answer n bytes = answer_unless (image_fault n bytes) tt

-- the words ws after an image was loaded over them; a refused one changes none
abbrev pub loaded_words : List ℕ → List ℕ → List ℕ
loaded_words ws bytes = cond (is_ok (load_answer (length ws) bytes)) (laid_over (pairs_of bytes) (image_words bytes) ws) ws

-- the words ws hold, from each pair's offset on, the words that it takes
abbrev pub HoldsPairs : List Pair → List ℕ → List ℕ → Type 0
HoldsPairs [] vs ws = Unit {0}
HoldsPairs (p ∷ ps) vs ws = (take p.len (drop p.offset ws) ≡ take p.len vs) × HoldsPairs ps (drop p.len vs) ws

-- address a lies in none of the pairs
abbrev pub OutsidePairs : ℕ → List Pair → Type 0
OutsidePairs a ps = AllByRecursion (λ p. (a < p.offset) ⊎ (pair_end p ≤ a)) ps
