-- The verbs of turns: how each is written, how many fields follow it, and its turn with these fields.
use Rattle.std.specs.Prelude.{ℕ, cond, List, [], ◌∷◌, Some, None, codes, Option, slice_index}
use Rattle.std.specs.Str.{bytes_eq}
use Rattle.versions.specs.declared.turn.Turn.{Turn}
use Rattle.versions.specs.declared.turn.Turn.TheVariants as turn
use Rattle.player.specs.declared.verb.Verb.{Verb}
use Rattle.player.specs.declared.verb.Verb.TheVariants.{Start, Load, Store, Squash, Commit, Replace}

abbrev pub verbs : List Verb
verbs = Start ∷ Load ∷ Store ∷ Squash ∷ Commit ∷ Replace ∷ []

abbrev pub verb_text : Verb → List ℕ
verb_text Start = codes "start"
verb_text Load = codes "load"
verb_text Store = codes "store"
verb_text Squash = codes "squash"
verb_text Commit = codes "commit"
verb_text Replace = codes "replace"

abbrev pub field_count : Verb → ℕ
field_count Start = 1
field_count Load = 2
field_count Store = 3
field_count Squash = 1
field_count Commit = 1
field_count Replace = 2

abbrev pub named_in : List Verb → List ℕ → Option Verb
named_in [] word = None
named_in (v ∷ vs) word = cond (bytes_eq word (verb_text v)) (Some v) (named_in vs word)

-- the verb that is written so
abbrev pub verb_named : List ℕ → Option Verb
verb_named word = named_in verbs word

abbrev pub turn_with : Verb → List ℕ → Turn
turn_with Start fs = turn.Start (slice_index fs 0)
turn_with Load fs = turn.Load (slice_index fs 0) (slice_index fs 1)
turn_with Store fs = turn.Store (slice_index fs 0) (slice_index fs 1) (slice_index fs 2)
turn_with Squash fs = turn.Squash (slice_index fs 0)
turn_with Commit fs = turn.Commit (slice_index fs 0)
turn_with Replace fs = turn.Replace (slice_index fs 0) (slice_index fs 1)
