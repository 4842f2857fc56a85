use Rattle.std.proofs.Common.{arith}
use Rattle.versions.specs.declared.turn.Turn.{Turn}
use Rattle.versions.specs.declared.turn.Turn.TheVariants.{Start, Load, Store, Squash, Commit, Replace}
use Rattle.versions.specs.Plain.{Plain, conditions, Rising}
use Rattle.versions.proofs.play.refusals_rise.Goals as goal

rising : (s : Plain) (t : Turn) → Rising 0 (conditions s t)
rising s (Start p) = (omega arith, (omega arith, tt))
rising s (Load p a) = (omega arith, (omega arith, (omega arith, (omega arith, tt))))
rising s (Store p a w) = (omega arith, (omega arith, (omega arith, (omega arith, tt))))
rising s (Squash p) = (omega arith, (omega arith, (omega arith, tt)))
rising s (Commit p) = (omega arith, (omega arith, (omega arith, tt)))
rising s (Replace p a) = (omega arith, (omega arith, (omega arith, (omega arith, (omega arith, tt)))))

pub returns : goal.returns
returns c = rising
