use Rattle.std.proofs.Common.{◌≡◌, take}
use Rattle.memory.specs.Adler.{adler32}
use Rattle.memory.proofs.sums.checksum.Given as goal

-- the words before a are summed up
abbrev pub invariant-loop-a : goal.invariant-loop-a
invariant-loop-a g l =
    let m = g.M.Memory in
    m.sound l.memory
    × (m.words l.memory ≡ m.words l.initial.memory)
    × (m.spare l.memory ≡ m.spare l.initial.memory)
    × (l.sum ≡ adler32 (take l.a (m.words l.initial.memory)))
