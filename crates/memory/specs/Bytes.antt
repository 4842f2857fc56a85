-- Words in a row of bytes: word a lies in bytes 4a to 4a+3, lowest byte first.
use Rattle.std.specs.Prelude.{ℕ, ◌+◌, ◌*◌, ◌/◌, cond, List, map, length, drop, nat_lt, slice_index, slice_set}
use Rattle.std.specs.Int.{byte_at}
use Rattle.std.specs.List.{range_with_len}
use Rattle.std.proofs.lemmas.List.FromFn.{length-map-range_with_len}
use Rattle.memory.specs.Words.{MemorySize}

-- the word of four bytes, lowest first
abbrev pub from_bytes : ℕ → ℕ → ℕ → ℕ → ℕ
from_bytes b0 b1 b2 b3 = b0 + b1 * 256 + b2 * 65536 + b3 * 16777216

-- word a of a row of bytes
abbrev pub word_at : List ℕ → ℕ → ℕ
word_at bs a = from_bytes (slice_index bs (4 * a)) (slice_index bs (4 * a + 1)) (slice_index bs (4 * a + 2)) (slice_index bs (4 * a + 3))

-- all words of a row of bytes
unfoldable pub words_of : List ℕ → List ℕ
words_of bs = map (word_at bs) (range_with_len 0 (length bs / 4))

-- the bytes at the row's end that belong to no word
abbrev pub spare_bytes : List ℕ → List ℕ
spare_bytes bs = drop (4 * (length bs / 4)) bs

-- the row with w as its word a
abbrev pub with_word : List ℕ → ℕ → ℕ → List ℕ
with_word bs a w =
    slice_set (slice_set (slice_set (slice_set bs (4 * a) (byte_at 0 w)) (4 * a + 1) (byte_at 1 w)) (4 * a + 2) (byte_at 2 w)) (4 * a + 3) (byte_at 3 w)

-- the row after w was written at word a; a refused write changes no byte
abbrev pub written_bytes : List ℕ → ℕ → ℕ → List ℕ
written_bytes bs a w = cond (nat_lt a (length bs / 4)) (with_word bs a w) bs

-- a row whose bytes hold a memory's number of words has that many words
pub words_of-sized : (bs : List ℕ) → MemorySize (length bs / 4) → MemorySize (length (words_of bs))
unfolding words_of
words_of-sized bs h = rw length-map-range_with_len h
