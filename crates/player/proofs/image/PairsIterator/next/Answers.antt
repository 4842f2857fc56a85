use Rattle.player.proofs.Numbers.{no-pair}
use Rattle.player.proofs.image.PairsIterator.next.Goals as goal

pub returns-in_err-pair-clause-steps : goal.returns-in_err-pair-clause-steps
returns-in_err-pair-clause-steps c =
    let none = no-pair c.args.self.now.0.now c.in_err-pair.ensures in
    rw c.from_residual.ensures (none, none)
