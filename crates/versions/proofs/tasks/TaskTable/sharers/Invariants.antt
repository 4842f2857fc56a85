use Rattle.std.proofs.Common.{◌≡◌, take}
use Rattle.versions.specs.Sharers.{SharersOf, versions_of}
use Rattle.versions.proofs.tasks.TaskTable.sharers.Given as goal

-- the processors so far are in the sharers
abbrev pub invariant-loop-k : goal.invariant-loop-k
invariant-loop-k g l =
    let m = g.Self.TaskTable in
    (l.sharers.address ≡ l.a) × SharersOf (versions_of (m.table l.self) l.a (take l.k l.p-items)) l.sharers
