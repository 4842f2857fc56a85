use Rattle.std.proofs.Common.{Err, sym, subst}
use Rattle.player.specs.declared.fault.PlayerFault.{PlayerFault}
use Rattle.player.specs.Scripts.{PlayedFrom, lists_of}
use Rattle.player.proofs.Performing.{refused-performed}
use Rattle.player.proofs.play.play_over.Goals as goal

pub returns-in-Err-clause-performed : goal.returns-in-Err-clause-performed
returns-in-Err-clause-performed g c =
    let m = g.S.Below.Memory in
    subst (λ (f : PlayerFault). PlayedFrom (m.words c.args.memory) c.args.image.now c.args.text.now (lists_of c.args.turns.now c.args.answers.now) (lists_of c.args.turns.now c.args.answers.now) (Err f) (m.words c.close.result)) (sym c.from.ensures)
    (refused-performed (m.words c.args.memory) c.args.image.now c.args.text.now c.in-Err.fault (lists_of c.args.turns.now c.args.answers.now) (m.words c.close.result) (cc) (cc))
