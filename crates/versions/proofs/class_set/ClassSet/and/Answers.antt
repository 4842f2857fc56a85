use Rattle.versions.proofs.ClassSets.{set-and}
use Rattle.versions.proofs.class_set.ClassSet.and.Goals as goal

pub returns : goal.returns
returns c i = set-and c.args.self.bits c.args.other.bits i
