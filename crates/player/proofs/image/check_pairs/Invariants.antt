use Rattle.std.proofs.Common.{◌≡◌, ◌+◌, ◌*◌, ◌≤◌, length}
use Rattle.memory.specs.Bytes.{words_of}
use Rattle.player.specs.Image.{in_pairs, pair_conditions, words_taken}
use Rattle.versions.specs.Conditions.{first_of}
use Rattle.player.proofs.image.check_pairs.Given as goal

-- the pairs before i are in order, and those that are left decide
abbrev pub invariant-loop-i : goal.invariant-loop-i
invariant-loop-i l =
    let i = l.i-iterator.count in
    let left = in_pairs (words_of l.i-iterator.iter.0.now) in
    let all = in_pairs (words_of l.pairs) in
    record {
      few : i + length left ≤ 64;
      decided : first_of (pair_conditions l.n 4 0 all) ≡ first_of (pair_conditions l.n (4 + 8 * i) l.end left);
      taken : words_taken all ≡ l.words + words_taken left;
      so_far : l.words ≤ l.end;
      inside : l.end ≤ l.n;
    }
