-- The table that the rows of the central buffer keep.
use Rattle.std.specs.Prelude.{◌≡◌, ℕ, ◌%◌, true}
use Rattle.buffer.specs.declared.rows.Rows.{Rows}
use Rattle.versions.specs.declared.version.Version.{Version}
use Rattle.versions.specs.Versions.{is_held}
use Rattle.versions.specs.Tables.{Table}
use Rattle.buffer.specs.Sets.{in_sets}

abbrev pub table_in : Rows → Table
table_in rows = in_sets rows.sets

-- a task with these versions holds no other address of a's class
abbrev pub HoldsNoOther : (ℕ → Version) → ℕ → Type 0
HoldsNoOther at a = (b : ℕ) → is_held (at b) ≡ true → b % 16 ≡ a % 16 → b ≡ a
