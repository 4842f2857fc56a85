use Rattle.std.proofs.Common.{◌∙◌, arith}
use Rattle.memory.proofs.Copying.{copy_step}
use Rattle.memory.proofs.client.copy_words.Goals as goal

pub loop-a-preserved : goal.loop-a-preserved
loop-a-preserved g c = (
  c.read.ensures.kept,
  c.write.ensures.kept,
  c.read.ensures.after ∙ c.loop-a.invariant.2,
  copy_step (g.F.Memory.words c.args.from.now) (g.T.Memory.words c.args.to.now) _ _ _ c.loop-a.a c.in_ok-w.w (omega arith) (omega arith) c.loop-a.invariant.2 c.loop-a.invariant.3
      c.in_ok-w.ensures.answer c.write.ensures.after,
  c.read.ensures.beside ∙ c.loop-a.invariant.4,
  c.write.ensures.beside ∙ c.loop-a.invariant.5,
)
