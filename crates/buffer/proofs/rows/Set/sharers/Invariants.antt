use Rattle.std.proofs.Common.{◌≡◌, map, take}
use Rattle.versions.specs.Sharers.{SharersOf}
use Rattle.buffer.specs.Sets.{in_row}
use Rattle.buffer.proofs.rows.Set.sharers.Given as goal

-- the tasks so far are in the sharers
abbrev pub invariant-loop-k : goal.invariant-loop-k
invariant-loop-k l = (l.sharers.address ≡ l.fn.a) × SharersOf (map (in_row l.row) (take l.k l.p-items)) l.sharers
