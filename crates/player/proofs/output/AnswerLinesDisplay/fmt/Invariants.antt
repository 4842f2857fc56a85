use Rattle.std.proofs.Common.{◌+◌, get_or, Ok}
use Rattle.std.specs.Fmt.{HasWritten, IsPlainFormatter}
use Rattle.player.specs.Listings.{lines_below, answer_line}
use Rattle.player.proofs.output.AnswerLinesDisplay.fmt.Given as goal

-- the lines before are written
abbrev pub invariant-loop-i : goal.invariant-loop-i
invariant-loop-i g l =
    IsPlainFormatter l.fn.f → HasWritten g.W.Write.write_str_gives l.fn.f (lines_below (λ i. answer_line (i + 1) (get_or l.self.0.now i (Ok 0))) l.i) l.f
