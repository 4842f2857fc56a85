-- The number of each refusal of a turn. That there is no address is the memory's refusal, with its number.
use Rattle.std.specs.Prelude.{ℕ, List, ◌++◌, codes, decimal}
use Rattle.memory.specs.declared.error.MemoryError.{MemoryError}
use Rattle.memory.specs.declared.error.MemoryError.TheVariants.{Address, Size}
use Rattle.memory.specs.Refusals.{refusal_number as memory_number}
use Rattle.versions.specs.declared.refusal.Refusal.{Refusal}
use Rattle.versions.specs.declared.refusal.Refusal.TheVariants.{NoProcessor, TaskActive, NoTask, NoAddress, ClassTaken, NotHead, IsHead, NotHeld}

abbrev pub refusal_number : Refusal → ℕ
refusal_number NoProcessor = 1
refusal_number TaskActive = 2
refusal_number NoTask = 3
refusal_number NoAddress = memory_number Address
refusal_number ClassTaken = 5
refusal_number NotHead = 6
refusal_number IsHead = 7
refusal_number NotHeld = 8

-- how it is written
abbrev pub refusal_text : Refusal → List ℕ
refusal_text e = codes "no " ++ decimal (refusal_number e)

-- the refusal of a turn whose read or write the memory refused
abbrev pub refusal_below : MemoryError → Refusal
refusal_below Address = NoAddress
refusal_below Size = NoAddress
