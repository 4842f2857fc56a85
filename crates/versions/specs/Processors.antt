-- Processors are the numbers 0 to 3.
use Rattle.std.specs.Prelude.{ℕ, cond, Ok, Err, Result, nat_le}
use Rattle.versions.specs.declared.refusal.Refusal.{Refusal}
use Rattle.versions.specs.declared.refusal.Refusal.TheVariants.{NoProcessor}

-- the processor of a number, if it is one
abbrev pub processor_answer : ℕ → Result ℕ Refusal
processor_answer p = cond (nat_le 4 p) (Err NoProcessor) (Ok p)
