use Rattle.std.proofs.Common.{arith, rules}
use Rattle.std.proofs.lemmas.Grind.{common_steps}
use Rattle.player.specs.Lists.{content, free}
use Rattle.player.specs.Scripts.{text_script}
use Rattle.player.proofs.Adding.{gained-reads-on}
use Rattle.player.proofs.play.play_text.Goals as goal

pub returns-in_err-read_turns-clause-sequential : goal.returns-in_err-read_turns-clause-sequential
returns-in_err-read_turns-clause-sequential g c =
    let s = g.S.VersionStore.plain c.args.store.now in
    let a₀ = content c.args.answers.now in
    let ts = (text_script (free c.args.turns.now) (free c.args.answers.now) c.args.text.now).played in
    gained-reads-on s s ts a₀ a₀ (search rules) (search rules)

pub returns-clause-sequential : goal.returns-clause-sequential
returns-clause-sequential g c =
    let s = g.S.VersionStore.plain c.args.store.now in
    let t = g.S.VersionStore.plain c.play_each.new.store in
    let ts = (text_script (free c.args.turns.now) (free c.args.answers.now) c.args.text.now).played in
    gained-reads-on s t ts (content c.args.answers.now) (content c.play_each.new.answers) (grind (arith, common_steps)) (grind (arith, common_steps))
