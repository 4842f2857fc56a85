-- How the report writes what calls gave.
use Rattle.std.specs.Prelude.{List, ℕ, ◌++◌, Ok, Err, Result, codes, decimal}
use Rattle.memory.specs.declared.error.MemoryError.{MemoryError}
use Rattle.memory.specs.Refusals.{refusal_text}
use Rattle.memories.specs.declared.report.Outside.{Outside}

-- the refusal, if there is one
abbrev pub outcome_text : Result (Unit {0}) MemoryError → List ℕ
outcome_text (Ok x) = codes "ok"
outcome_text (Err e) = refusal_text e

abbrev pub outside_text : Outside → List ℕ
outside_text o =
    codes "read of " ++ decimal o.address ++ codes ": " ++ outcome_text o.read ++ codes ", write of " ++ decimal o.address ++ codes ": " ++ outcome_text o.write
