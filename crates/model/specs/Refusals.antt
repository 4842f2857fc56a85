-- When a run is refused, and the number that C is told.
use Rattle.std.specs.Prelude.{ℕ, cond, Ok, Err, Result, nat_le}
use Rattle.memory.specs.declared.error.MemoryError.{MemoryError}
use Rattle.memory.specs.Refusals.{refusal_number}
use Rattle.memory.specs.Words.{open_answer}
use Rattle.player.specs.declared.fault.ListFault.TheVariants.{Full}
use Rattle.player.specs.Faults.{list_number}
use Rattle.model.specs.declared.refusal.RunRefusal.{RunRefusal}
use Rattle.model.specs.declared.refusal.RunRefusal.TheVariants.{Words, Replies}

abbrev pub run_refusal_number : RunRefusal → ℕ
run_refusal_number (Words e) = refusal_number e
run_refusal_number (Replies e) = list_number e

-- of so many commands, with so many places for replies, where this is the answer to opening the words
abbrev pub run_over : Result (Unit {0}) MemoryError → ℕ → ℕ → Result (Unit {0}) RunRefusal
run_over (Ok u) commands places = cond (nat_le commands places) (Ok tt) (Err (Replies Full))
run_over (Err e) commands places = Err (Words e)

-- of n words: refused where they can't be opened, or where there are fewer places than commands
abbrev pub run_outcome : ℕ → ℕ → ℕ → Result (Unit {0}) RunRefusal
run_outcome n commands places = run_over (open_answer n) commands places

-- 0, or the refusal's number
abbrev pub number_told : Result (Unit {0}) RunRefusal → ℕ
number_told (Ok u) = 0
number_told (Err e) = run_refusal_number e
