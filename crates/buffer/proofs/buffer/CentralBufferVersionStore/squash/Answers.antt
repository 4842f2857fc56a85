use Rattle.std.proofs.Common.{ℕ, ◌-◌, length, Err, refl, ap, ◌∙◌, arith}
use Rattle.std.proofs.lemmas.Result.{err_from_is_err_and}
use Rattle.versions.specs.declared.turn.Turn.TheVariants.{Squash}
use Rattle.versions.specs.Tables.{squash_place}
use Rattle.versions.proofs.Judging.{squash-agrees, at-processor, ok-squash}
use Rattle.versions.proofs.Serving.{serve-squash}
use Rattle.versions.proofs.Tabling.{placed}
use Rattle.buffer.specs.Tasks.{table_of}
use Rattle.buffer.proofs.Taking.{turn-refused, turn-served}
use Rattle.buffer.proofs.buffer.CentralBufferVersionStore.squash.Goals as goal

pub returns-in_err-k : goal.returns-in_err-k
returns-in_err-k g c =
    let m = g.M.Memory in
    let b = c.args.self.now in
    let q = err_from_is_err_and c.from_residual.result c.from_residual.ensures.1 in
    turn-refused m.words m.sound m.spare b (Squash c.args.p) c.from_residual.result c.in_err-k.field-0.0 c.args.p (squash_place b.tasks.order c.args.p) c.requires
    (squash-agrees (m.words b.memory) b.tasks.order (table_of b.tasks) c.args.p) c.in_err-k.ensures (q.1 ∙ ap Err q.2)

pub cut-requires : goal.cut-requires
cut-requires g c =
    let ps = c.args.self.now.tasks.order in
    let at = at-processor c.args.p c.in_ok-k.field-0-0 c.in_ok-k.k (squash_place ps) c.in_ok-k.ensures in
    omega (arith, (placed ps _ c.in_ok-k.k (ok-squash ps _ c.in_ok-k.k at.1).0).within)

pub overflow_sub-result : goal.overflow_sub-result
overflow_sub-result g c =
    let ps = c.args.self.now.tasks.order in
    let at = at-processor c.args.p c.in_ok-k.field-0-0 c.in_ok-k.k (squash_place ps) c.in_ok-k.ensures in
    omega (arith, (placed ps _ c.in_ok-k.k (ok-squash ps _ c.in_ok-k.k at.1).0).within, c.len-active.ensures.value ∙ ap length c.order.ensures)

pub returns : goal.returns
returns g c =
    let m = g.M.Memory in
    let b = c.args.self.now in
    let at = at-processor c.args.p c.in_ok-k.field-0-0 c.in_ok-k.k (squash_place b.tasks.order) c.in_ok-k.ensures in
    turn-served m.words m.sound m.spare b (λ (p : ℕ). Squash p) c.args.p c.in_ok-k.field-0-0 _ _ at.0
    (serve-squash (m.words b.memory) b.tasks.order (table_of b.tasks) c.requires.apart c.requires.fits _ c.in_ok-k.k _ _ _
    at.1 (ap (λ (n : ℕ). n - c.in_ok-k.k) (c.len-active.ensures.value ∙ ap length c.order.ensures)) c.cut.ensures.order c.cut.ensures.table)
    c.requires.memory refl
