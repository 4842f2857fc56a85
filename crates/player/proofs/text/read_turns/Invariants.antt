use Rattle.std.proofs.Common.{◌≡◌, length}
use Rattle.player.specs.Lists.{free, content, room, row_of}
use Rattle.player.specs.Splits.{text_lines}
use Rattle.player.specs.Text.{lines_read, text_read}
use Rattle.player.specs.Tokens.{text_left, read_place}
use Rattle.player.proofs.Reading.{Begun}
use Rattle.player.proofs.text.read_turns.Given as goal

-- what is left gives what the text gave, but for the turns that are in the list already
abbrev pub invariant-loop-first : goal.invariant-loop-first
invariant-loop-first l =
    Begun (content l.initial.turns) (row_of l.initial.turns) (text_read (free l.initial.turns) l.text)
    (content l.turns) (row_of l.turns) (lines_read (read_place l.tokens) (free l.turns) (text_lines (text_left l.tokens)))
    × (room l.turns ≡ room l.initial.turns)

abbrev pub decreases-loop-first : goal.decreases-loop-first
decreases-loop-first l = length (text_left l.tokens)
