use Rattle.std.proofs.Common.{◌≡◌, ◌*◌, ◌≤◌, length}
use Rattle.memory.specs.Bytes.{words_of}
use Rattle.player.specs.Image.{in_pairs, Inside, words_taken, laid_over}
use Rattle.player.proofs.image.lay_pairs.Given as goal

-- laying what is left of the pairs and words over the words now gives what laying all over those at the entry gives
abbrev pub invariant-loop-pair : goal.invariant-loop-pair
invariant-loop-pair g l =
    let m = g.M.Memory in
    let left = in_pairs (words_of l.pair-iterator.0.now) in
    record {
      sound : m.sound l.memory;
      laid : laid_over (in_pairs (words_of l.pairs)) (words_of l.words) (m.words l.initial.memory) ≡ laid_over left (words_of l.left) (m.words l.memory);
      inside : Inside (length (m.words l.memory)) left;
      some : 4 * words_taken left ≤ length l.left;
      beside : m.spare l.memory ≡ m.spare l.initial.memory;
    }
