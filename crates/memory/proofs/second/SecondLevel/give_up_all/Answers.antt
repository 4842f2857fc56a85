use Rattle.memory.specs.Second.{cached_of}
use Rattle.std.proofs.Common.{sym, ◌∙◌, arith}
use Rattle.memory.proofs.Caching.{tied-after, counted-after, empty-after, counted-empty}
use Rattle.memory.proofs.second.SecondLevel.give_up_all.Goals as goal

pub loop-i-preserved : goal.loop-i-preserved
loop-i-preserved g c =
    let m = g.M.Memory in
    let before = cached_of m.words c.loop-i.self in
    let after = cached_of m.words c.give_up.new.self in
    let tied = c.loop-i.invariant.0.1 in (
      (c.give_up.ensures.kept, tied-after before after c.loop-i.i tied (omega arith) c.give_up.ensures.cached),
      c.give_up.ensures.beside ∙ c.loop-i.invariant.1,
      counted-after before after c.loop-i.i tied (omega arith) c.give_up.ensures.cached ∙ c.loop-i.invariant.2,
      empty-after before after c.loop-i.i tied (omega arith) c.give_up.ensures.cached c.loop-i.invariant.3,
    )

pub returns-clause-words : goal.returns-clause-words
returns-clause-words g c =
    sym (counted-empty (cached_of g.M.Memory.words c.loop-i.self) (λ j h. c.loop-i.invariant.3 j (omega arith))) ∙ c.loop-i.invariant.2
