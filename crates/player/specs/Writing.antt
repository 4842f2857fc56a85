-- Turns written as text.
use Rattle.std.specs.Prelude.{ℕ, ◌^◌, ◌<◌, List, [], ◌∷◌, ◌++◌}
use Rattle.std.specs.List.{flat_map, AllByRecursion}
use Rattle.versions.specs.declared.turn.Turn.{Turn}
use Rattle.versions.specs.declared.turn.Turn.TheVariants.{Start, Load, Store, Squash, Commit, Replace}
use Rattle.versions.specs.Turns.{turn_text}
use Rattle.player.specs.Splits.{line_end}

abbrev pub fields_in : Turn → List ℕ
fields_in (Start p) = p ∷ []
fields_in (Load p a) = p ∷ a ∷ []
fields_in (Store p a w) = p ∷ a ∷ w ∷ []
fields_in (Squash p) = p ∷ []
fields_in (Commit p) = p ∷ []
fields_in (Replace p a) = p ∷ a ∷ []

-- the line of a turn, with its end
abbrev pub line_of : Turn → List ℕ
line_of t = turn_text t ++ line_end ∷ []

-- the text of turns, a line for each
abbrev pub text_of : List Turn → List ℕ
text_of ts = flat_map line_of ts

-- the fields of a turn are numbers of 32 bits
abbrev pub Small : Turn → Type 0
Small t = AllByRecursion (λ n. n < 2 ^ 32) (fields_in t)
