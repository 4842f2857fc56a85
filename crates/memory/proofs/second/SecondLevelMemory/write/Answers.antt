use Rattle.std.proofs.Common.{arith}
use Rattle.memory.specs.Second.{cached_of}
use Rattle.memory.proofs.Caching.{write-done}
use Rattle.memory.proofs.second.SecondLevelMemory.write.Goals as goal

pub returns-clause-after : goal.returns-clause-after
returns-clause-after g c =
    let before = cached_of g.M.Memory.words c.args.self.now in
    let after = cached_of g.M.Memory.words c.set_line.new.self in
    (write-done before after c.args.a c.args.w c.requires.1 (omega arith) c.set_line.ensures.cached).after

pub returns-clause-kept : goal.returns-clause-kept
returns-clause-kept g c =
    let before = cached_of g.M.Memory.words c.args.self.now in
    let after = cached_of g.M.Memory.words c.set_line.new.self in
    (c.set_line.ensures.kept, (write-done before after c.args.a c.args.w c.requires.1 (omega arith) c.set_line.ensures.cached).kept)
