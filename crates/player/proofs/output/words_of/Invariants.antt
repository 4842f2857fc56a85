use Rattle.std.proofs.Common.{◌≡◌, take}
use Rattle.player.proofs.output.words_of.Given as goal

-- the words before a are read, and all stay
abbrev pub invariant-loop-a : goal.invariant-loop-a
invariant-loop-a g l =
    let m = g.M.Memory in record {
      kept : m.sound l.memory;
      same : m.words l.memory ≡ m.words l.initial.memory;
      beside : m.spare l.memory ≡ m.spare l.initial.memory;
      read : l.words.items ≡ take l.a (m.words l.initial.memory);
    }
