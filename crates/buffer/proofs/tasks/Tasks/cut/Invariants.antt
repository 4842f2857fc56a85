use Rattle.std.proofs.Common.{◌≡◌, take}
use Rattle.versions.specs.Tables.{without_all}
use Rattle.buffer.specs.Rows.{table_in}
use Rattle.buffer.proofs.tasks.Tasks.cut.Given as goal

-- the tasks before p are cleared: 1.1.0 are the rows
abbrev pub invariant-loop-p : goal.invariant-loop-p
invariant-loop-p l = table_in l.self.1.1.0 ≡ without_all (table_in l.initial.self.1.1.0) (take l.p-index l.p-items)
