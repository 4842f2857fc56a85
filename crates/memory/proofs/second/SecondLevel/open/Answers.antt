use Rattle.memory.specs.Second.{empty_over}
use Rattle.memory.proofs.Caching.{tied-empty, counted-empty, empty-lines}
use Rattle.memory.proofs.second.SecondLevel.open.Goals as goal

pub returns-clause-words : goal.returns-clause-words
returns-clause-words g c = counted-empty (empty_over (g.M.Memory.words c.args.below)) empty-lines

pub returns-clause-kept : goal.returns-clause-kept
returns-clause-kept g c = (c.requires, tied-empty (g.M.Memory.words c.args.below))
