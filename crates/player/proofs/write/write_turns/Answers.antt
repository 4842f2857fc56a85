use Rattle.std.proofs.Common.{◌≡◌, take, string_bytes, ap, ◌∙◌, subst, arith}
use Rattle.std.specs.List.{AllByRecursion}
use Rattle.std.proofs.lemmas.List.{take_all}
use Rattle.player.specs.Text.{text_read}
use Rattle.player.specs.Writing.{text_of, Small}
use Rattle.player.proofs.RoundTrip.{text-back}
use Rattle.player.proofs.write.write_turns.Goals as goal

pub returns-clause-back : goal.returns-clause-back
returns-clause-back c =
    let ts = c.args.turns.now in
    let i = c.loop-turn.turn-index in
    let all : take i ts ≡ ts = take_all i ts (omega arith) in
    let text : string_bytes c.loop-turn.text ≡ text_of ts = c.loop-turn.invariant.0 ∙ ap text_of all in
    let fit : AllByRecursion Small ts = subst (AllByRecursion Small) all c.loop-turn.invariant.1 in
    λ free room. ap (text_read free) text ∙ text-back free ts fit room
