-- How many elements a list over a lent row takes, and how much is read and played at most.
use Rattle.std.specs.Prelude.{ℕ, min, List, length}

abbrev pub capacity : {T : Type 0} → List T → ℕ
capacity row = min (length row) 65535

-- so many bytes of an image's file, and of a text's
abbrev pub most_bytes : ℕ
most_bytes = 32768

-- so many turns, and as many answers
abbrev pub most_turns : ℕ
most_turns = 2048
