-- The snooping store over a memory: the plain state that it stands for, its condition, and what it shows of a turn.
use Rattle.std.specs.Prelude.{◌≡◌, ℕ, cond, ◌&&◌, List, length, Some, None, Option, nat_lt}
use Rattle.versions.specs.declared.turn.Turn.{Turn}
use Rattle.versions.specs.Orders.{Apart}
use Rattle.versions.specs.Plain.{Plain, state_after}
use Rattle.versions.specs.Tables.{plain_of, Fitting}
use Rattle.snooping.specs.declared.cache.Cache.{Cache}
use Rattle.snooping.specs.declared.line.Line.{Line}
use Rattle.snooping.specs.declared.report.BusReport.{BusReport}
use Rattle.snooping.specs.declared.store.SnoopingStore.{SnoopingStore}
use Rattle.snooping.specs.Caches.{caches_in, processors_of, table_of}
use Rattle.snooping.specs.Grid.{LineTable}
use Rattle.snooping.specs.Layout.{line_of, lines_of}
use Rattle.snooping.specs.Report.{report_after}

-- the memory below the store, its four caches, and what the bus reports of the latest accepted turn; contracts cite these, since the fields are private
abbrev pub memory_below : {M : Type 0} → SnoopingStore M → M
memory_below s = s.memory

abbrev pub all_caches : {M : Type 0} → SnoopingStore M → List Cache
all_caches s = caches_in s.caches

abbrev pub latest_report : {M : Type 0} → SnoopingStore M → BusReport
latest_report s = s.report

abbrev pub plain_in : {M : Type 0} → (M → List ℕ) → SnoopingStore M → Plain
plain_in words s = plain_of (words (memory_below s)) (processors_of s.caches) (table_of s.caches)

-- the lines are those of the plain state
pub record SoundSnooping {M : Type 0} (words : M → List ℕ) (sound : M → Type 0) (s : SnoopingStore M) : Type 0 where
  pub memory : sound (memory_below s)
  pub apart : Apart (processors_of s.caches)
  pub fits : Fitting (length (words (memory_below s))) (processors_of s.caches) (table_of s.caches)
  pub lines : all_caches s ≡ lines_of (plain_in words s)

-- what a turn shows beside its answer: every line, and the bus report
pub record Shown {M : Type 0} (words : M → List ℕ) (s : SnoopingStore M) (t : Turn) (later : SnoopingStore M) : Type 0 where
  pub lines : all_caches later ≡ lines_of (state_after (plain_in words s) t)
  pub report : latest_report later ≡ report_after (latest_report s) (plain_in words s) t

-- line c of processor p, for a user who may ask for any
abbrev pub line_answer : Plain → ℕ → ℕ → Option Line
line_answer s p c = cond (nat_lt p 4 && nat_lt c 16) (Some (line_of s p c)) None

-- the word of a that a supplier gives: the line's of a processor, else the memory's
abbrev pub supplied_word : LineTable → ℕ → ℕ → Option ℕ → ℕ
supplied_word ls c w None = w
supplied_word ls c w (Some q) = (ls q c).word
