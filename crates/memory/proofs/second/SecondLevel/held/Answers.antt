use Rattle.memory.specs.Second.{cached_of}
use Rattle.memory.proofs.Caching.{held-answer}
use Rattle.memory.proofs.second.SecondLevel.held.Goals as goal

pub returns-clause-answer : goal.returns-clause-answer
returns-clause-answer g c = held-answer (cached_of g.M.Memory.words c.args.self.now) c.args.a c.word_of.result c.requires.1 (rw c.line_number.ensures at c.word_of.ensures)
