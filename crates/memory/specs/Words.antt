-- What each call of a memory answers, and the words after it, as functions of the words before it.
use Rattle.std.specs.Prelude.{ℕ, ◌≤◌, cond, List, length, Ok, Err, Result, nat_le, nat_lt, slice_index, slice_set}
use Rattle.memory.specs.declared.error.MemoryError.{MemoryError}
use Rattle.memory.specs.declared.error.MemoryError.TheVariants.{Address, Size}

-- a memory may have n words
abbrev pub MemorySize : ℕ → Type 0
MemorySize n = (1 ≤ n) × (n ≤ 4096)

-- opening a memory of n words: refused where there is no word, or more than 4,096
abbrev pub open_answer : ℕ → Result (Unit {0}) MemoryError
open_answer n = cond (nat_le 1 n) (cond (nat_le n 4096) (Ok tt) (Err Size)) (Err Size)

-- reading word a: refused where a is the size or more
abbrev pub read_answer : List ℕ → ℕ → Result ℕ MemoryError
read_answer ws a = cond (nat_lt a (length ws)) (Ok (slice_index ws a)) (Err Address)

-- writing word a: refused where a is the size or more
abbrev pub write_answer : List ℕ → ℕ → Result (Unit {0}) MemoryError
write_answer ws a = cond (nat_lt a (length ws)) (Ok tt) (Err Address)

-- the words after w was written at a; a refused write changes none
abbrev pub written_words : List ℕ → ℕ → ℕ → List ℕ
written_words ws a w = cond (nat_lt a (length ws)) (slice_set ws a w) ws
