use Rattle.std.proofs.Common.{◌≡◌}
use lib.Seq.{paste}
use Rattle.memory.specs.Bytes.{words_of}
use Rattle.player.proofs.image.lay_pair.Given as goal

-- k words are put
abbrev pub invariant-loop-k : goal.invariant-loop-k
invariant-loop-k g l =
    let m = g.M.Memory in
    m.sound l.memory
    × (m.words l.memory ≡ paste (m.words l.initial.memory) l.pair.offset (words_of l.words) l.k)
    × (m.spare l.memory ≡ m.spare l.initial.memory)
