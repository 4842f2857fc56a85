use Rattle.std.proofs.Common.{add-one, rules}
use Rattle.std.proofs.Output.{has_written_append}
use Rattle.player.proofs.output.WordLinesDisplay.fmt.Goals as goal

pub loop-a-preserved : goal.loop-a-preserved
loop-a-preserved g c = λ plain. rw add-one (has_written_append _ _ _ _ _ _ (c.loop-a.invariant plain) (search rules))
