use Rattle.std.proofs.Common.{◌≡◌, ℕ}
use Rattle.versions.specs.ClassSets.{bits_of}
use Rattle.versions.proofs.Writing.{WrittenBelow, LeftFrom}
use Rattle.versions.proofs.written.write_back.Given as goal

-- the classes below some i are written, and what is left is of classes from i on
abbrev pub invariant-loop-c : goal.invariant-loop-c
invariant-loop-c g l =
    let m = g.M.Memory in
    let at = g.T.TaskTable.table l.tasks l.p in
    m.sound l.memory
    × (m.spare l.memory ≡ m.spare l.initial.memory)
    × ((i : ℕ) × WrittenBelow at i (m.words l.initial.memory) (m.words l.memory) l.wrote.words l.wrote.last × LeftFrom at l.left i)

-- each class that is taken out leaves a set with fewer bits
abbrev pub decreases-loop-c : goal.decreases-loop-c
decreases-loop-c g l = bits_of l.left
