use Rattle.std.proofs.Common.{◌≡◌, ◌≤◌, take}
use Rattle.versions.specs.Plain.{answers_of, state_after_all}
use Rattle.player.specs.Lists.{free}
use Rattle.player.specs.Scripts.{Gained}
use Rattle.versions.specs.Taken.{ShowsAll}
use Rattle.player.proofs.play.play_each.Given as goal

-- the turns before i are played, and their answers in the list
abbrev pub invariant-loop-i : goal.invariant-loop-i
invariant-loop-i g l =
    let m = g.S.VersionStore in
    m.sound l.store
    × (m.plain l.store ≡ state_after_all (m.plain l.initial.store) (take l.i l.turns))
    × Gained l.initial.answers (answers_of (m.plain l.initial.store) (take l.i l.turns)) l.answers
    × (l.i ≤ free l.initial.answers)
    × (m.spare l.store ≡ m.spare l.initial.store)
    × ShowsAll m.plain m.shows l.initial.store (take l.i l.turns) l.store
