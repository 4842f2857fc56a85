-- What a read and a write outside a memory give.
use Rattle.std.specs.Prelude.{ℕ, Err}
use Rattle.memory.specs.declared.error.MemoryError.TheVariants.{Address}
use Rattle.memories.specs.declared.report.Outside.{Outside}

-- both are refused for the address
abbrev pub refused_at : ℕ → Outside
refused_at a = record { address = a; read = Err Address; write = Err Address }
