use Rattle.std.proofs.Common.{◌≡◌, ℕ, ◌<◌, get_or}
use Rattle.memory.specs.declared.second.Line.TheVariants.{Empty}
use Rattle.memory.specs.Second.{counted, cached_of, SoundCache}
use Rattle.memory.proofs.second.SecondLevel.give_up_all.Given as goal

-- the lines before i are empty, and no word as counted has changed
abbrev pub invariant-loop-i : goal.invariant-loop-i
invariant-loop-i g l =
    let m = g.M.Memory in
    SoundCache m.words m.sound l.self
    × (m.spare l.self.below ≡ m.spare l.initial.self.below)
    × (counted (cached_of m.words l.self) ≡ counted (cached_of m.words l.initial.self))
    × ((j : ℕ) → j < l.i → get_or l.self.lines j Empty ≡ Empty)
