use Rattle.std.proofs.Common.{◌≡◌, ℕ, ◌<◌, false, get_or}
use Rattle.versions.specs.ClassSets.{has, no_class}
use Rattle.snooping.proofs.caches.Caches.left_over.Given as goal

-- the classes of the processors so far are in the set, but for those that are running
abbrev pub invariant-loop-q : goal.invariant-loop-q
invariant-loop-q l = (q c : ℕ) → q < l.q → get_or l.running q false ≡ false → has l.classes c ≡ false → has (get_or l.self.valid q no_class) c ≡ false
