use Rattle.std.proofs.Common.{◌≡◌, ◌≤◌}
use Rattle.memory.specs.Client.{differences}
use Rattle.memory.proofs.client.count_differences.Given as goal

-- the differences before a are counted
abbrev pub invariant-loop-a : goal.invariant-loop-a
invariant-loop-a g l =
    let f = g.F.Memory in
    let t = g.T.Memory in
    f.sound l.left
    × t.sound l.right
    × (f.words l.left ≡ f.words l.initial.left)
    × (t.words l.right ≡ t.words l.initial.right)
    × (f.spare l.left ≡ f.spare l.initial.left)
    × (t.spare l.right ≡ t.spare l.initial.right)
    × (l.differ ≡ differences l.a (f.words l.initial.left) (t.words l.initial.right))
    × (l.differ ≤ l.a)
