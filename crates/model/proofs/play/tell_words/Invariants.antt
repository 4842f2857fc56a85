use Rattle.std.proofs.Common.{◌≡◌, ◌+◌, ◌*◌, ◌≤◌, ◌++◌, get_or}
use Rattle.arrayvec.specs.ArrayString.{array_string_len}
use Rattle.player.specs.Listings.{lines_below, word_line}
use Rattle.model.proofs.play.tell_words.Given as goal

-- the lines before are added, and each has its most bytes at most
abbrev pub invariant-loop-a : goal.invariant-loop-a
invariant-loop-a l = record {
  text : l.told.bytes ≡ l.initial.told.bytes ++ lines_below (λ a. word_line a (get_or l.words a 0)) l.a;
  short : array_string_len l.told ≤ array_string_len l.initial.told + 19 * l.a;
}
