use Rattle.std.proofs.Common.{◌≡◌}
use Rattle.memory.specs.Client.{copied}
use Rattle.memory.proofs.client.copy_words.Given as goal

-- the words before a are copied
abbrev pub invariant-loop-a : goal.invariant-loop-a
invariant-loop-a g l =
    let f = g.F.Memory in
    let t = g.T.Memory in
    f.sound l.from
    × t.sound l.to
    × (f.words l.from ≡ f.words l.initial.from)
    × (t.words l.to ≡ copied l.a (f.words l.initial.from) (t.words l.initial.to))
    × (f.spare l.from ≡ f.spare l.initial.from)
    × (t.spare l.to ≡ t.spare l.initial.to)
