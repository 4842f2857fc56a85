use Rattle.std.proofs.Common.{◌<◌, ◌≤◌, Some, None}
use Rattle.buffer.specs.Sets.{LastOf}
use Rattle.buffer.proofs.rows.Set.address_place.Given as goal

-- of the rows before this one
abbrev pub invariant-loop-j : goal.invariant-loop-j
invariant-loop-j l = record { some : l.place < 4 → LastOf l.self l.fn.a l.j (Some l.place); none : 4 ≤ l.place → LastOf l.self l.fn.a l.j None }
