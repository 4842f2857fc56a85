use Rattle.std.proofs.Common.{◌≡◌, ◌++◌, map, take, drop}
use Rattle.buffer.specs.Sets.{without_row}
use Rattle.buffer.proofs.rows.Set.clear.Given as goal

-- the rows before this one are cleared
abbrev pub invariant-loop-row : goal.invariant-loop-row
invariant-loop-row l = l.row-items ≡ map (without_row l.p) (take l.row-index l.initial.row-items) ++ drop l.row-index l.initial.row-items
