-- The processor of a turn, and how a turn is written.
use Rattle.std.specs.Prelude.{ℕ, List, ◌++◌, codes, decimal}
use Rattle.versions.specs.declared.turn.Turn.{Turn}
use Rattle.versions.specs.declared.turn.Turn.TheVariants.{Start, Load, Store, Squash, Commit, Replace}

abbrev pub processor_of : Turn → ℕ
processor_of (Start p) = p
processor_of (Load p a) = p
processor_of (Store p a w) = p
processor_of (Squash p) = p
processor_of (Commit p) = p
processor_of (Replace p a) = p

-- a turn as text: its verb and its fields, one space between
abbrev pub turn_text : Turn → List ℕ
turn_text (Start p) = codes "start " ++ decimal p
turn_text (Load p a) = codes "load " ++ (decimal p ++ (codes " " ++ decimal a))
turn_text (Store p a w) = codes "store " ++ (decimal p ++ (codes " " ++ (decimal a ++ (codes " " ++ decimal w))))
turn_text (Squash p) = codes "squash " ++ decimal p
turn_text (Commit p) = codes "commit " ++ decimal p
turn_text (Replace p a) = codes "replace " ++ (decimal p ++ (codes " " ++ decimal a))
