use Rattle.std.proofs.Common.{get_or}
use Rattle.std.specs.Fmt.{HasWritten, IsPlainFormatter}
use Rattle.player.specs.Listings.{lines_below, word_line}
use Rattle.player.proofs.output.WordLinesDisplay.fmt.Given as goal

-- the lines before are written
abbrev pub invariant-loop-a : goal.invariant-loop-a
invariant-loop-a g l =
    IsPlainFormatter l.fn.f → HasWritten g.W.Write.write_str_gives l.fn.f (lines_below (λ a. word_line a (get_or l.self.0.now a 0)) l.a) l.f
