-- The number of each refusal of a memory.
use Rattle.std.specs.Prelude.{ℕ, List, ◌++◌, codes, decimal}
use Rattle.memory.specs.declared.error.MemoryError.{MemoryError}
use Rattle.memory.specs.declared.error.MemoryError.TheVariants.{Address, Size}

abbrev pub refusal_number : MemoryError → ℕ
refusal_number Address = 4
refusal_number Size = 17

-- how it is written
abbrev pub refusal_text : MemoryError → List ℕ
refusal_text e = codes "no " ++ decimal (refusal_number e)
