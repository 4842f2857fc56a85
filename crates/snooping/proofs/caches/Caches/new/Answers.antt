use Rattle.snooping.proofs.Grids.{new-lines}
use Rattle.snooping.proofs.caches.Caches.new.Goals as goal

pub returns-clause-lines : goal.returns-clause-lines
returns-clause-lines c = new-lines c.new.result c.new.ensures
