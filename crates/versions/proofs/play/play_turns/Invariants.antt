use Rattle.std.proofs.Common.{◌≡◌, ◌≤◌, ◌++◌, length, take, drop}
use Rattle.versions.specs.Plain.{answers_of, state_after_all}
use Rattle.versions.specs.Taken.{ShowsAll}
use Rattle.versions.proofs.play.play_turns.Given as goal

-- the turns before i are played, and their answers written
abbrev pub invariant-loop-i : goal.invariant-loop-i
invariant-loop-i g l =
    let m = g.S.VersionStore in
    m.sound l.store
    × (m.plain l.store ≡ state_after_all (m.plain l.initial.store) (take l.i l.turns))
    × (l.answers ≡ answers_of (m.plain l.initial.store) (take l.i l.turns) ++ drop l.i l.initial.answers)
    × (m.spare l.store ≡ m.spare l.initial.store)
    × (l.i ≤ length l.answers)
    × (length l.answers ≡ length l.initial.answers)
    × ShowsAll m.plain m.shows l.initial.store (take l.i l.turns) l.store
