-- The four caches, their table of lines, the versions that it holds, and the processors with an active task.
use Rattle.std.specs.Prelude.{ℕ, List}
use Rattle.versions.specs.Tables.{Table}
use Rattle.snooping.specs.declared.cache.Cache.{Cache}
use Rattle.snooping.specs.declared.caches.Caches.{Caches}
use Rattle.snooping.specs.Grid.{LineTable, line_in, table_by}

abbrev pub caches_in : Caches → List Cache
caches_in x = x.list

abbrev pub lines_in : Caches → LineTable
lines_in x = line_in (caches_in x)

abbrev pub table_of : Caches → Table
table_of x = table_by (lines_in x)

abbrev pub processors_of : Caches → List ℕ
processors_of x = x.order
