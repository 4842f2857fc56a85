use Rattle.std.proofs.Common.{ℕ, Err, refl, ap, ◌∙◌}
use Rattle.std.proofs.lemmas.Result.{err_from_is_err_and}
use Rattle.versions.specs.declared.turn.Turn.TheVariants.{Start}
use Rattle.versions.specs.Tables.{start_place}
use Rattle.versions.proofs.Judging.{start-agrees, at-processor}
use Rattle.versions.proofs.Serving.{serve-start}
use Rattle.buffer.specs.Tasks.{table_of}
use Rattle.buffer.proofs.Taking.{turn-refused, turn-served}
use Rattle.buffer.proofs.buffer.CentralBufferVersionStore.start.Goals as goal

pub returns-in_err-p : goal.returns-in_err-p
returns-in_err-p g c =
    let m = g.M.Memory in
    let b = c.args.self.now in
    let q = err_from_is_err_and c.from_residual.result c.from_residual.ensures.1 in
    turn-refused m.words m.sound m.spare b (Start c.args.p) c.from_residual.result c.in_err-p.field-0.0 c.args.p (start_place b.tasks.order c.args.p) c.requires
    (start-agrees (m.words b.memory) b.tasks.order (table_of b.tasks) c.args.p) c.in_err-p.ensures.value (q.1 ∙ ap Err q.2)

pub returns : goal.returns
returns g c =
    let m = g.M.Memory in
    let b = c.args.self.now in
    let at = at-processor c.args.p c.in_ok-p.p c.in_ok-p.active (start_place b.tasks.order) c.in_ok-p.ensures.value in
    turn-served m.words m.sound m.spare b (λ (p : ℕ). Start p) c.args.p c.in_ok-p.p c.in_ok-p.active _ at.0
    (serve-start (m.words b.memory) b.tasks.order (table_of b.tasks) c.requires.apart c.requires.fits c.in_ok-p.p c.in_ok-p.active
    c.append.new.self.order (table_of c.append.new.self) at.1 c.append.ensures.order c.append.ensures.table)
    c.requires.memory refl
