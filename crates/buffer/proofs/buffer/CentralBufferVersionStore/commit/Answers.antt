use Rattle.std.proofs.Common.{ℕ, Err, ap, ◌∙◌}
use Rattle.std.proofs.lemmas.Result.{err_from_is_err_and}
use Rattle.versions.specs.declared.turn.Turn.TheVariants.{Commit}
use Rattle.versions.specs.Tables.{commit_place}
use Rattle.versions.proofs.Judging.{commit-agrees, at-processor}
use Rattle.versions.proofs.Serving.{serve-commit}
use Rattle.buffer.specs.Tasks.{table_of}
use Rattle.buffer.proofs.Taking.{turn-refused, turn-served}
use Rattle.buffer.proofs.buffer.CentralBufferVersionStore.commit.Goals as goal

pub returns-in_err-p : goal.returns-in_err-p
returns-in_err-p g c =
    let m = g.M.Memory in
    let b = c.args.self.now in
    let q = err_from_is_err_and c.from_residual.result c.from_residual.ensures.1 in
    turn-refused m.words m.sound m.spare b (Commit c.args.p) c.from_residual.result c.in_err-p.field-0.0 c.args.p (commit_place b.tasks.order c.args.p) c.requires
    (commit-agrees (m.words b.memory) b.tasks.order (table_of b.tasks) c.args.p) c.in_err-p.ensures (q.1 ∙ ap Err q.2)

pub returns : goal.returns
returns g c =
    let m = g.M.Memory in
    let b = c.args.self.now in
    let at = at-processor c.args.p c.in_ok-p.p c.in_ok-p.field-0-1 (commit_place b.tasks.order) c.in_ok-p.ensures in
    turn-served m.words m.sound m.spare b (λ (p : ℕ). Commit p) c.args.p c.in_ok-p.p _ _ at.0
    (serve-commit (m.words b.memory) b.tasks.order (table_of b.tasks) c.requires.apart c.requires.fits c.in_ok-p.p c.in_ok-p.field-0-1 c.write_back-wrote.result.words
    (m.words c.write_back-wrote.new.memory) c.retire.new.self.order (table_of c.retire.new.self) at.1
    c.write_back-wrote.ensures.count c.write_back-wrote.ensures.words c.retire.ensures.order c.retire.ensures.table)
    c.write_back-wrote.ensures.kept c.write_back-wrote.ensures.beside
