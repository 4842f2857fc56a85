-- The active tasks of the central buffer: their processors, and the table of their versions.
use Rattle.std.specs.Prelude.{ℕ, List, map}
use Rattle.buffer.specs.declared.tasks.Tasks.{Tasks}
use Rattle.versions.specs.declared.version.Version.{Version}
use Rattle.buffer.specs.Rows.{table_in}
use Rattle.versions.specs.Tables.{Table}

-- the processors with an active task, oldest first
abbrev pub processors_of : Tasks → List ℕ
processors_of t = t.order

abbrev pub table_of : Tasks → Table
table_of t = table_in t.rows

-- the versions of a of some processors, in their order
abbrev pub versions_at : Tasks → ℕ → List ℕ → List Version
versions_at t a ps = map (λ q. table_of t q a) ps
