-- Bytes taken apart at a byte that separates: lines at byte 10, the parts of a line at byte 32.
use Rattle.std.specs.Prelude.{ℕ, List, ◌==◌}
use Rattle.std.specs.List.{slice_split}

abbrev pub line_end : ℕ
line_end = 10

abbrev pub space : ℕ
space = 32

-- the lines of a text, one more than it has line ends: what comes after the last end is a line too, if an empty one
abbrev pub text_lines : List ℕ → List (List ℕ)
text_lines text = slice_split (λ b. b == line_end) text

-- the parts of a line, one more than it has spaces; a part may be empty
abbrev pub line_parts : List ℕ → List (List ℕ)
line_parts line = slice_split (λ b. b == space) line
