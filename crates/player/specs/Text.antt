-- What a text of turns gives: the turns of its lines, up to the first fault.
use Rattle.std.specs.Prelude.{ℕ, ◌+◌, ◌-◌, cond, List, [], ◌∷◌, length, Ok, Err, Result, nat_lt, slice_set}
use Rattle.versions.specs.declared.turn.Turn.{Turn}
use Rattle.player.specs.declared.fault.ListFault.TheVariants.{Full}
use Rattle.player.specs.declared.fault.TextWhy.{TextWhy}
use Rattle.player.specs.declared.fault.TextWhy.TheVariants as why
use Rattle.player.specs.Faults.{TextFault}
use Rattle.player.specs.Lines.{turn_of, unfinished}
use Rattle.player.specs.Splits.{text_lines}

pub record Reading : Type 0 where
  pub turns : List Turn
  pub answer : Result (Unit {0}) TextFault

-- these turns are read, and nothing is refused
abbrev pub whole_read : List Turn → Reading
whole_read ts = record { turns = ts; answer = Ok tt }

-- the line that begins at a place is refused
abbrev pub refused_at : ℕ → TextWhy → Reading
refused_at at e = record { turns = []; answer = Err (record { why = e; place = at }) }

-- a turn before what else is read
abbrev pub turn_before : Turn → Reading → Reading
turn_before t more = record { turns = t ∷ more.turns; answer = more.answer }

-- a line at a place that is its turn or a fault, where the list has room for so many turns, and what else is read after
-- an accepted turn
abbrev pub line_read : ℕ → ℕ → Result Turn TextWhy → Reading → Reading
line_read at free (Err e) more = refused_at at e
line_read at free (Ok t) more = cond (nat_lt 0 free) (turn_before t more) (refused_at at (why.List Full))

-- what comes after the last line end: nothing, or a line that is refused
abbrev pub last_read : ℕ → List ℕ → Reading
last_read at [] = whole_read []
last_read at (b ∷ bs) = refused_at at (unfinished (turn_of (b ∷ bs)))

-- lines from a place on; the last of them has no line end
abbrev pub lines_read : ℕ → ℕ → List (List ℕ) → Reading
lines_read at free [] = whole_read []
lines_read at free (line ∷ []) = last_read at line
lines_read at free (line ∷ next ∷ lines) = line_read at free (turn_of line) (lines_read ((at + length line) + 1) (free - 1) (next ∷ lines))

-- a text, where the list has room for so many turns
abbrev pub text_read : ℕ → List ℕ → Reading
text_read free text = lines_read 0 free (text_lines text)

-- elements written into a row, one after another from a place on
abbrev pub written : {T : Type 0} → List T → ℕ → List T → List T
written row at [] = row
written row at (x ∷ xs) = written (slice_set row at x) (at + 1) xs
