-- What is left of a line from a place in it, and what is done with it.
use Rattle.std.specs.Prelude.{◌≡◌, ℕ, suc, cond, List, [], ◌∷◌, length, Some, None, Ok, Err, Option, Result, ◌==◌, slice_set}
use Rattle.std.specs.List.{slice_split, before_first}
use Rattle.versions.specs.declared.turn.Turn.{Turn}
use Rattle.player.specs.declared.fault.ListFault.TheVariants.{Full}
use Rattle.player.specs.declared.fault.TextWhy.{TextWhy}
use Rattle.player.specs.declared.fault.TextWhy.TheVariants as why
use Rattle.player.specs.declared.verb.Verb.{Verb}
use Rattle.player.specs.Splits.{space, line_end}
use Rattle.player.specs.Fields.{field_of}
use Rattle.player.specs.Lines.{fields_of, turn_of_verb, unfinished}
use Rattle.player.specs.Lists.{is_full, pushed}
use Rattle.player.specs.Tokens.{Word, verb_seen, part_length}

-- a text's first line: the bytes before the first line end, or all where there is none
abbrev pub first_line : List ℕ → List ℕ
first_line text = before_first (λ b. b == line_end) text

-- the bytes after the first separator, if there is one
abbrev pub after : ℕ → List ℕ → Option (List ℕ)
after sep [] = None
after sep (b ∷ bs) = cond (b == sep) (Some bs) (after sep bs)

-- the pieces that follow the first
abbrev pub further : ℕ → Option (List ℕ) → List (List ℕ)
further sep None = []
further sep (Some bs) = slice_split (λ b. b == sep) bs

-- the parts of the line after the next space
abbrev pub parts_left : List ℕ → List (List ℕ)
parts_left text = further space (after space (first_line text))

-- the answer to a line with this turn, where this comes after its end, if it has one
abbrev pub line_answer : Option (List ℕ) → Result Turn TextWhy → Result Turn TextWhy
line_answer None r = Err (unfinished r)
line_answer (Some bs) r = r

-- n was read of the first part that was left, and the others are left
pub record FieldTaken (text rest : List ℕ) (n : ℕ) : Type 0 where
  pub part : List ℕ
  pub parts : parts_left text ≡ part ∷ parts_left rest
  pub number : field_of part ≡ Ok n
  pub line : after line_end rest ≡ after line_end text
  pub between : part_length rest ≡ 0

-- no part was left, or no number in the first, so that one field or more are refused
pub record NoField (text : List ℕ) (e : TextWhy) : Type 0 where
  pub refused : (n : ℕ) → fields_of (suc n) (parts_left text) ≡ Err e

-- the turn t, where no part may be left
abbrev pub turn_at_end : Turn → List (List ℕ) → Result Turn TextWhy
turn_at_end t [] = Ok t
turn_at_end t (p ∷ ps) = Err why.Field

-- t is the turn of a verb with the first parts that were left as its fields, and the others are left
pub record TurnTaken (v : Verb) (text rest : List ℕ) (t : Turn) : Type 0 where
  pub turn : turn_of_verb (Some v) (parts_left text) ≡ turn_at_end t (parts_left rest)
  pub line : after line_end rest ≡ after line_end text
  pub between : part_length rest ≡ 0

-- a verb's fields are not all left, or one of them is no number
pub record NoTurn (v : Verb) (text : List ℕ) (e : TextWhy) : Type 0 where
  pub refused : turn_of_verb (Some v) (parts_left text) ≡ Err e

-- the end of a line, where these parts are left and this comes after the line, if it ends
abbrev pub end_answer : List (List ℕ) → Option (List ℕ) → Result (Unit {0}) TextWhy
end_answer (p ∷ ps) text = Err why.Field
end_answer [] None = Err why.Field
end_answer [] (Some text) = Ok tt

-- the turn of a line that begins with this token, and of which this is left
abbrev pub line_turn : Word → List ℕ → Result Turn TextWhy
line_turn first text = line_answer (after line_end text) (turn_of_verb (verb_seen first) (parts_left text))

-- a line's turn added to the elements xs, where there may be n: the answer, and the elements and the row after
abbrev pub listed_answer : Result Turn TextWhy → List Turn → ℕ → Result (Unit {0}) TextWhy
listed_answer (Err e) xs n = Err e
listed_answer (Ok t) xs n = cond (is_full xs n) (Err (why.List Full)) (Ok tt)

abbrev pub listed : Result Turn TextWhy → List Turn → ℕ → List Turn
listed (Err e) xs n = xs
listed (Ok t) xs n = pushed xs n t

abbrev pub listed_row : Result Turn TextWhy → List Turn → ℕ → List Turn → List Turn
listed_row (Err e) xs n row = row
listed_row (Ok t) xs n row = cond (is_full xs n) row (slice_set row (length xs) t)
