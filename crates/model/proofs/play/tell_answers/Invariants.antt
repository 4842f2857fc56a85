use Rattle.std.proofs.Common.{◌≡◌, ◌+◌, ◌*◌, ◌≤◌, ◌++◌, get_or, Ok}
use Rattle.arrayvec.specs.ArrayString.{array_string_len}
use Rattle.player.specs.Listings.{lines_below, answer_line}
use Rattle.model.proofs.play.tell_answers.Given as goal

-- the lines before are added, and each has its most bytes at most
abbrev pub invariant-loop-i : goal.invariant-loop-i
invariant-loop-i l = record {
  text : l.told.bytes ≡ l.initial.told.bytes ++ lines_below (λ i. answer_line (i + 1) (get_or l.answers i (Ok 0))) l.i;
  short : array_string_len l.told ≤ array_string_len l.initial.told + 19 * l.i;
}
