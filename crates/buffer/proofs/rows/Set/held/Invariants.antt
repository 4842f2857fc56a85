use Rattle.std.proofs.Common.{◌≡◌, ◌<◌, ◌≤◌, true, get_or, None}
use Rattle.versions.specs.Versions.{is_held}
use Rattle.buffer.specs.Sets.{no_row, in_row, HeldBefore}
use Rattle.buffer.proofs.rows.Set.held.Given as goal

-- of the rows before this one
abbrev pub invariant-loop-j : goal.invariant-loop-j
invariant-loop-j l = record {
  some : l.place < 4 → (l.place < l.j) × (is_held (in_row (get_or l.self l.place no_row) l.fn.p) ≡ true);
  none : 4 ≤ l.place → HeldBefore l.self l.fn.p l.j None;
}
