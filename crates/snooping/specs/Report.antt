-- What the bus reports of a turn, from the state of the plain store before it.
use Rattle.std.specs.Prelude.{ℕ, ◌+◌, ◌^◌, cond, not, ◌&&◌, List, [], ◌∷◌, map, length, Some, None, Option}
use Rattle.std.specs.Option.{option_map}
use Rattle.std.specs.List.{list_any, before_first, after_first}
use Rattle.versions.specs.declared.refusal.Refusal.{Refusal}
use Rattle.versions.specs.declared.turn.Turn.{Turn}
use Rattle.versions.specs.declared.turn.Turn.TheVariants.{Start, Load, Store, Squash, Commit, Replace}
use Rattle.versions.specs.declared.version.Version.{Version}
use Rattle.versions.specs.Plain.{Task, Plain, is_on, task_on, refusal_of, given}
use Rattle.versions.specs.Tables.{last_that, last_own}
use Rattle.versions.specs.Versions.{is_own, is_held}
use Rattle.snooping.specs.declared.report.BusKind.{BusKind}
use Rattle.snooping.specs.declared.report.BusKind.TheVariants.{Quiet, BusRead, BusWrite, BusWback}
use Rattle.snooping.specs.declared.report.BusReport.{BusReport}
use Rattle.snooping.specs.declared.report.Supplier.{Supplier}
use Rattle.snooping.specs.declared.report.Supplier.TheVariants.{Processor, Memory, Nobody}

-- the numbers by which users know them
abbrev pub kind_number : BusKind → ℕ
kind_number Quiet = 0
kind_number BusRead = 1
kind_number BusWrite = 2
kind_number BusWback = 3

abbrev pub supplier_number : Supplier → ℕ
supplier_number (Processor p) = p
supplier_number Memory = 4
supplier_number Nobody = 5

-- the four reports: no bus request; a read of address a; a write of address a with the processors that it invalidates, as a
-- sum of powers of two; n words written back, the last one at address a
abbrev pub quiet : BusReport
quiet = record { kind = Quiet; address = 0; supplier = Nobody; invalidated = 0; written = 0 }

abbrev pub bus_read : ℕ → Supplier → BusReport
bus_read a s = record { kind = BusRead; address = a; supplier = s; invalidated = 0; written = 0 }

abbrev pub bus_write : ℕ → ℕ → BusReport
bus_write a mask = record { kind = BusWrite; address = a; supplier = Nobody; invalidated = mask; written = 0 }

abbrev pub written_back : ℕ → ℕ → BusReport
written_back a n = record { kind = BusWback; address = a; supplier = Nobody; invalidated = 0; written = n }

-- the supplier of a: the last of some tasks that has an own word there, else the memory
abbrev pub supplied_by : Option ℕ → Supplier
supplied_by None = Memory
supplied_by (Some p) = Processor p

abbrev pub last_owner : ℕ → List Task → Option ℕ
last_owner a ts = option_map (λ t. t.on) (last_that (λ t. is_own (t.at a)) ts)

-- whom the invalidations of a write reach among the later tasks: each up to the next with an own word, and that one only if
-- it has a mark too
abbrev pub reached : {A : Type 0} → (A → Version) → List A → List A
reached at [] = []
reached at (t ∷ ts) = cond (is_own (at t)) (cond (at t).mark (t ∷ []) []) (t ∷ reached at ts)

abbrev pub powers : List ℕ → ℕ
powers [] = 0
powers (p ∷ ps) = 2 ^ p + powers ps

abbrev pub written_last : Option ℕ → ℕ → BusReport
written_last None n = quiet
written_last (Some a) n = written_back a n

-- a turn that is not refused; a store hits where its line has S and no pointer, that is where it has an own word and no later task
-- holds the address
abbrev pub report_of : Plain → Turn → BusReport
report_of s (Start p) = quiet
report_of s (Load p a) = cond (is_held ((task_on p s.order).at a)) quiet (bus_read a (supplied_by (last_owner a (before_first (is_on p) s.order))))
report_of s (Store p a w) =
    cond (is_own ((task_on p s.order).at a) && not (list_any (λ t. is_held (t.at a)) (after_first (is_on p) s.order))) quiet
    (bus_write a (powers (map (λ t. t.on) (reached (λ t. t.at a) (after_first (is_on p) s.order)))))
report_of s (Squash p) = quiet
report_of s (Commit p) = written_last (last_own (task_on p s.order).at (length s.memory) 16) (given s (Commit p))
report_of s (Replace p a) = cond (is_own ((task_on p s.order).at a)) (written_back a 1) quiet

-- after a turn; a refused one leaves the report as it was
abbrev pub report_by : Option Refusal → BusReport → BusReport → BusReport
report_by None old new = new
report_by (Some e) old new = old

unfoldable pub report_after : BusReport → Plain → Turn → BusReport
report_after old s t = report_by (refusal_of s t) old (report_of s t)
