use Rattle.std.proofs.Common.{◌≡◌, ℕ, cond, is_some, Err, Option, ap, ◌∙◌}
use Rattle.std.proofs.lemmas.Result.{err_from_is_err_and}
use Rattle.versions.specs.declared.turn.Turn.TheVariants.{Replace}
use Rattle.versions.specs.declared.version.Version.{Version}
use Rattle.versions.specs.Plain.{written_to}
use Rattle.versions.specs.Tables.{replace_place, with_processor, with_version}
use Rattle.versions.proofs.Judging.{replace-agrees, at-processor}
use Rattle.versions.proofs.Serving.{serve-replace}
use Rattle.buffer.specs.Tasks.{table_of}
use Rattle.buffer.proofs.Taking.{turn-refused, turn-served}
use Rattle.buffer.proofs.buffer.CentralBufferVersionStore.replace.Goals as goal

pub returns-in_err-p : goal.returns-in_err-p
returns-in_err-p g c =
    let m = g.M.Memory in
    let b = c.args.self.now in
    let q = err_from_is_err_and c.from_residual.result c.from_residual.ensures.1 in
    let place = λ (n : ℕ). replace_place n b.tasks.order (table_of b.tasks) c.args.p c.args.a in
    turn-refused m.words m.sound m.spare b (Replace c.args.p c.args.a) c.from_residual.result c.in_err-p.field-0.0 c.args.p (place _) c.requires
    (replace-agrees (m.words b.memory) b.tasks.order (table_of b.tasks) c.args.p c.args.a) (c.in_err-p.ensures ∙ ap (λ (n : ℕ). with_processor c.args.p (place n)) c.size.ensures) (q.1 ∙ ap Err q.2)

pub returns : goal.returns
returns g c =
    let m = g.M.Memory in
    let b = c.args.self.now in
    let a = c.args.a in
    let ws = m.words b.memory in
    let ps = b.tasks.order in
    let table = table_of b.tasks in
    let at = at-processor c.args.p c.in_ok-p.p c.in_ok-p.field-0-1 (λ (p : ℕ). replace_place c.size.result ps table p a) c.in_ok-p.ensures in
    let own : c.version-own.result.own ≡ (table c.in_ok-p.p a).own = ap (λ (v : Version). v.own) c.version-own.ensures in
    turn-served m.words m.sound m.spare b (λ (p : ℕ). Replace p a) c.args.p c.in_ok-p.p _ _ at.0
    (serve-replace ws ps table c.requires.apart c.requires.fits c.in_ok-p.p a c.in_ok-p.field-0-1 c.write_own-wrote.result.words
    (m.words c.write_own-wrote.new.memory) c.put.new.self.order (table_of c.put.new.self)
    (at.1 ∙ ap (λ (n : ℕ). replace_place n ps table c.in_ok-p.p a) c.size.ensures)
    (c.write_own-wrote.ensures.count ∙ ap (λ (o : Option ℕ). cond (is_some o) 1 0) own)
    (c.write_own-wrote.ensures.words ∙ ap (λ (o : Option ℕ). written_to o a ws) own)
    c.put.ensures.order (c.put.ensures.table ∙ ap (with_version table c.in_ok-p.p a) c.none.ensures))
    c.write_own-wrote.ensures.kept c.write_own-wrote.ensures.beside
