use Rattle.std.proofs.Common.{ℕ, ◌-◌, length, Err, refl, ap, ◌∙◌, arith}
use Rattle.std.proofs.lemmas.Result.{err_from_is_err_and}
use Rattle.versions.specs.declared.turn.Turn.TheVariants.{Squash}
use Rattle.versions.specs.Tables.{squash_place}
use Rattle.versions.proofs.Judging.{squash-agrees, ok-squash, at-processor}
use Rattle.versions.proofs.Tabling.{placed}
use Rattle.snooping.specs.Caches.{processors_of, table_of}
use Rattle.snooping.proofs.Snooped.{took, took-refused, sound-pointing, turn-squash}
use Rattle.snooping.proofs.store.SnoopingStoreVersionStore.squash.Goals as goal

pub returns-in_err-k : goal.returns-in_err-k
returns-in_err-k g c =
    let m = g.M.Memory in
    let s = c.args.self.now in
    let q = err_from_is_err_and c.from_residual.result c.from_residual.ensures.1 in
    took-refused m.words m.sound m.spare s (Squash c.args.p) c.from_residual.result c.in_err-k.field-0.0 c.args.p (squash_place (processors_of s.caches) c.args.p) c.requires (squash-agrees (m.words s.memory) (processors_of s.caches) (table_of s.caches) c.args.p) c.in_err-k.ensures (q.1 ∙ ap Err q.2)

pub cut-requires-clause-bound : goal.cut-requires-clause-bound
cut-requires-clause-bound g c =
    let ps = processors_of c.args.self.now.caches in
    let at = at-processor c.args.p c.in_ok-k.field-0-0 c.in_ok-k.k (squash_place ps) c.in_ok-k.ensures in
    omega (arith, (placed ps c.in_ok-k.field-0-0 c.in_ok-k.k (ok-squash ps c.in_ok-k.field-0-0 c.in_ok-k.k at.1).0).within)

pub cut-requires-clause-pointing : goal.cut-requires-clause-pointing
cut-requires-clause-pointing g c = sound-pointing g.M.Memory.words c.args.self.now c.requires

pub overflow_sub-result : goal.overflow_sub-result
overflow_sub-result g c =
    let ps = processors_of c.args.self.now.caches in
    let at = at-processor c.args.p c.in_ok-k.field-0-0 c.in_ok-k.k (squash_place ps) c.in_ok-k.ensures in
    omega (arith, (placed ps c.in_ok-k.field-0-0 c.in_ok-k.k (ok-squash ps c.in_ok-k.field-0-0 c.in_ok-k.k at.1).0).within, c.len-active.ensures.value, ap length c.order.ensures)

pub returns : goal.returns
returns g c =
    let m = g.M.Memory in
    let s = c.args.self.now in
    let at = at-processor c.args.p c.in_ok-k.field-0-0 c.in_ok-k.k (squash_place (processors_of s.caches)) c.in_ok-k.ensures in
    took m.words m.sound m.spare s (λ (p : ℕ). Squash p) c.args.p c.in_ok-k.field-0-0 (c.len-active.result - c.in_ok-k.k) _ at.0
    (turn-squash m.words s c.requires c.in_ok-k.field-0-0 c.in_ok-k.k
    (c.len-active.result - c.in_ok-k.k) (processors_of c.cut.new.self) c.cut.new.self.list c.quiet-self.result at.1
    (ap (λ (n : ℕ). n - c.in_ok-k.k) (c.len-active.ensures.value ∙ ap length c.order.ensures)) c.cut.ensures.order c.cut.ensures.lines c.cut.new.self.wide c.quiet-self.ensures) c.requires.memory refl
