use Rattle.std.proofs.Common.{◌≡◌, ◌<◌, length, Ok, ◌∙◌, arith}
use Rattle.std.proofs.lemmas.List.{length-set}
use Rattle.versions.specs.declared.turn.Turn.TheVariants.{Start}
use Rattle.versions.specs.Played.{turns_played}
use Rattle.versions.proofs.Playing.{state-step, answers-step, shows-step, played-reads-on}
use Rattle.versions.proofs.play.play_turns.Goals as goal

pub loop-i-preserved : goal.loop-i-preserved
loop-i-preserved g c =
    let m = g.S.VersionStore in
    let s = m.plain c.args.store.now in
    let ts = c.args.turns.now in
    let i = c.loop-i.i in
    let inside : i < length ts = omega arith in
    let room : i < length c.args.answers.now = omega (arith, c.loop-i.invariant.5) in
    let same = length-set c.loop-i.answers i c.take_turn.result in (
      c.take_turn.ensures.kept,
      state-step s ts i (Start 0) (m.plain c.loop-i.store) (m.plain c.take_turn.new.self) inside c.loop-i.invariant.1 c.take_turn.ensures.after,
      answers-step s ts c.args.answers.now c.loop-i.answers i (Start 0) (m.plain c.loop-i.store) c.take_turn.result (Ok 0) inside room
          c.loop-i.invariant.1 c.take_turn.ensures.answer c.loop-i.invariant.2,
      c.take_turn.ensures.beside ∙ c.loop-i.invariant.3,
      omega (arith, same),
      same ∙ c.loop-i.invariant.5,
      shows-step m.plain m.shows c.args.store.now c.loop-i.store c.take_turn.new.self ts i (Start 0) inside c.loop-i.invariant.6 c.take_turn.ensures.after c.take_turn.ensures.shows,
    )

pub returns-then-i-answers-clause-sequential : goal.returns-then-i-answers-clause-sequential
returns-then-i-answers-clause-sequential g c =
    let m = g.S.VersionStore in
    let n : c.loop-i.i ≡ turns_played c.args.turns.now c.args.answers.now = omega (arith, c.loop-i.invariant.4, c.loop-i.invariant.5) in
    played-reads-on c.loop-i.i (m.plain c.args.store.now) (m.plain c.loop-i.store) c.args.turns.now c.args.answers.now c.loop-i.answers n c.loop-i.invariant.2 c.loop-i.invariant.1

pub returns-clause-sequential : goal.returns-clause-sequential
returns-clause-sequential g c =
    let m = g.S.VersionStore in
    let n : c.loop-i.i ≡ turns_played c.args.turns.now c.args.answers.now = omega (arith, c.loop-i.invariant.4, c.loop-i.invariant.5) in
    played-reads-on c.loop-i.i (m.plain c.args.store.now) (m.plain c.loop-i.store) c.args.turns.now c.args.answers.now c.loop-i.answers n c.loop-i.invariant.2 c.loop-i.invariant.1
