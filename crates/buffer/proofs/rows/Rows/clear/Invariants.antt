use Rattle.versions.specs.ClassSets.{bits_of}
use Rattle.buffer.specs.Rows.{table_in}
use Rattle.buffer.proofs.Covering.{ClearedBut}
use Rattle.buffer.proofs.rows.Rows.clear.Given as goal

-- the sets of the classes that are taken out are cleared
abbrev pub invariant-loop-c : goal.invariant-loop-c
invariant-loop-c l = ClearedBut l.left (table_in l.initial.self) l.p (table_in l.self)

abbrev pub decreases-loop-c : goal.decreases-loop-c
decreases-loop-c l = bits_of l.left
