use Rattle.versions.specs.ClassSets.{bits_of}
use Rattle.snooping.specs.Lines.{ended}
use Rattle.snooping.proofs.Sweeping.{Swept}
use Rattle.snooping.proofs.cache.Cache.end_all.Given as goal

-- the lines of the classes that were taken out are ended
abbrev pub invariant-loop-c : goal.invariant-loop-c
invariant-loop-c l = Swept (ended l.event) l.left l.fn.self.lines l.self.lines

abbrev pub decreases-loop-c : goal.decreases-loop-c
decreases-loop-c l = bits_of l.left
