use Rattle.versions.proofs.ClassSets.{set-or}
use Rattle.versions.proofs.class_set.ClassSet.or.Goals as goal

pub returns : goal.returns
returns c i = set-or c.args.self.bits c.args.other.bits i
