-- The second-level cache as a small machine: its lines, the words of the memory below, and both after each call.
use Rattle.std.specs.Prelude.{◌≡◌, ℕ, ◌%◌, ◌<◌, Bool, cond, List, map, length, replicate, is_some, Some, None, Option, ◌==◌, nat_lt, slice_index, slice_index_or, slice_set}
use Rattle.std.specs.List.{range_with_len}
use Rattle.std.proofs.lemmas.List.FromFn.{length-map-range_with_len}
use Rattle.memory.specs.Words.{MemorySize}
use Rattle.std.specs.Option.{unwrap_or}
use Rattle.memory.specs.declared.second.Line.{Line}
use Rattle.memory.specs.declared.second.Line.TheVariants.{Empty, Clean, Changed}
use Rattle.memory.specs.declared.second.SecondLevel.{SecondLevel}

pub record Cached : Type 0 where
  pub lines : List Line
  pub below : List ℕ

-- lines over the words of a memory
abbrev pub lines_over : List Line → List ℕ → Cached
lines_over ls ws = record { lines = ls; below = ws }

-- the cache at opening: every line is empty
abbrev pub empty_over : List ℕ → Cached
empty_over ws = lines_over (replicate 64 Empty) ws

-- the word that a line has for address a
abbrev pub word_in : Line → ℕ → Option ℕ
word_in Empty a = None
word_in (Clean tag w) a = cond (tag == a) (Some w) None
word_in (Changed tag w) a = cond (tag == a) (Some w) None

-- the line of address a
abbrev pub line_of : Cached → ℕ → Line
line_of c a = slice_index_or c.lines (a % 64) Empty

-- the cache has a word for address a
abbrev pub hit : Cached → ℕ → Bool
hit c a = is_some (word_in (line_of c a) a)

-- word a as the cache counts it: its own if it has one, else that of the memory below
abbrev pub counted_at : Cached → ℕ → ℕ
counted_at c a = unwrap_or (word_in (line_of c a) a) (slice_index c.below a)

-- all words as the cache counts them
unfoldable pub counted : Cached → List ℕ
counted c = map (counted_at c) (range_with_len 0 (length c.below))

-- the words below after a line was given up: a changed one is written back to its own address
abbrev pub written_back : Line → List ℕ → List ℕ
written_back Empty ws = ws
written_back (Clean tag w) ws = ws
written_back (Changed tag w) ws = slice_set ws tag w

-- the cache after line number i was given up: it is empty then
abbrev pub given_up : Cached → ℕ → Cached
given_up c i = lines_over (slice_set c.lines i Empty) (written_back (slice_index_or c.lines i Empty) c.below)

-- the cache after address a got the line l: a line that held another address is given up first
abbrev pub freed : Cached → ℕ → Cached
freed c a = cond (hit c a) c (given_up c (a % 64))

abbrev pub with_line : Cached → ℕ → Line → Cached
with_line c a l = lines_over (slice_set (freed c a).lines (a % 64) l) (freed c a).below

-- the cache after a read of a: a miss takes the line with the word below
abbrev pub after_read : Cached → ℕ → Cached
after_read c a =
    cond (nat_lt a (length c.below)) (cond (hit c a) c (with_line c a (Clean a (slice_index c.below a)))) c

-- the cache after w was written at a: the line is changed, and the word below is not read
abbrev pub after_write : Cached → ℕ → ℕ → Cached
after_write c a w = cond (nat_lt a (length c.below)) (with_line c a (Changed a w)) c

-- line number i may hold this line: an address of the memory that belongs there, and if clean, the word below
abbrev pub MayHold : List ℕ → ℕ → Line → Type 0
MayHold ws i Empty = Unit {0}
MayHold ws i (Clean tag w) = (tag % 64 ≡ i) × (tag < length ws) × (w ≡ slice_index ws tag)
MayHold ws i (Changed tag w) = (tag % 64 ≡ i) × (tag < length ws)

-- what ties the cache's lines to the words below
pub record Tied (c : Cached) : Type 0 where
  pub count : length c.lines ≡ 64
  pub each : (i : ℕ) → i < 64 → MayHold c.below i (slice_index_or c.lines i Empty)

-- the memory below a cache, as contracts name it: the field is private
abbrev pub memory_below : {M : Type 0} → SecondLevel M → M
memory_below s = s.below

-- a cache over a memory, by that memory's words; its condition, by that memory's condition too
abbrev pub cached_of : {M : Type 0} → (M → List ℕ) → SecondLevel M → Cached
cached_of words s = lines_over s.lines (words (memory_below s))

abbrev pub SoundCache : {M : Type 0} → (M → List ℕ) → (M → Type 0) → SecondLevel M → Type 0
SoundCache words sound s = sound (memory_below s) × Tied (cached_of words s)

-- a cache has as many words as the memory below
pub counted-sized : (c : Cached) → MemorySize (length c.below) → MemorySize (length (counted c))
unfolding counted
counted-sized c h = rw length-map-range_with_len h
