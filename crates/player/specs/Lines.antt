-- A line of a text of turns: a verb and its fields, one space between.
use Rattle.std.specs.Prelude.{ℕ, zero, suc, List, [], ◌∷◌, Some, None, Ok, Err, Option, Result}
use Rattle.versions.specs.declared.turn.Turn.{Turn}
use Rattle.player.specs.declared.fault.TextWhy.{TextWhy}
use Rattle.player.specs.declared.fault.TextWhy.TheVariants as why
use Rattle.player.specs.declared.verb.Verb.{Verb}
use Rattle.player.specs.Fields.{field_of}
use Rattle.player.specs.Splits.{line_parts}
use Rattle.player.specs.Verbs.{verb_named, field_count, turn_with}

-- a field before others: the first that is refused decides
abbrev pub field_before : Result ℕ TextWhy → Result (List ℕ) TextWhy → Result (List ℕ) TextWhy
field_before (Err e) r = Err e
field_before (Ok f) (Err e) = Err e
field_before (Ok f) (Ok fs) = Ok (f ∷ fs)

-- the numbers of n fields: neither fewer parts nor more
abbrev pub fields_of : ℕ → List (List ℕ) → Result (List ℕ) TextWhy
fields_of zero [] = Ok []
fields_of zero (p ∷ ps) = Err why.Field
fields_of (suc n) [] = Err why.Field
fields_of (suc n) (p ∷ ps) = field_before (field_of p) (fields_of n ps)

abbrev pub turn_of_fields : Verb → Result (List ℕ) TextWhy → Result Turn TextWhy
turn_of_fields v (Err e) = Err e
turn_of_fields v (Ok fs) = Ok (turn_with v fs)

abbrev pub turn_of_verb : Option Verb → List (List ℕ) → Result Turn TextWhy
turn_of_verb None parts = Err why.Verb
turn_of_verb (Some v) parts = turn_of_fields v (fields_of (field_count v) parts)

-- the turn of the parts of a line; a line has at least one part
abbrev pub turn_of_parts : List (List ℕ) → Result Turn TextWhy
turn_of_parts [] = Err why.Verb
turn_of_parts (word ∷ parts) = turn_of_verb (verb_named word) parts

-- the turn of a line, given by its bytes before the line end
abbrev pub turn_of : List ℕ → Result Turn TextWhy
turn_of line = turn_of_parts (line_parts line)

-- a line without its end is refused, if for nothing before then for that
abbrev pub unfinished : Result Turn TextWhy → TextWhy
unfinished (Err e) = e
unfinished (Ok t) = why.Field
