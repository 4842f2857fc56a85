use Rattle.std.proofs.Common.{ℕ, Err, refl, ap, ◌∙◌}
use Rattle.std.proofs.lemmas.Result.{err_from_is_err_and}
use Rattle.versions.specs.declared.turn.Turn.TheVariants.{Start}
use Rattle.versions.specs.Tables.{start_place}
use Rattle.versions.proofs.Judging.{at-processor, start-agrees}
use Rattle.snooping.specs.Caches.{processors_of, table_of}
use Rattle.snooping.proofs.Snooped.{took, took-refused, turn-start}
use Rattle.snooping.proofs.store.SnoopingStoreVersionStore.start.Goals as goal

pub returns-in_err-p : goal.returns-in_err-p
returns-in_err-p g c =
    let m = g.M.Memory in
    let s = c.args.self.now in
    let q = err_from_is_err_and c.from_residual.result c.from_residual.ensures.1 in
    took-refused m.words m.sound m.spare s (Start c.args.p) c.from_residual.result c.in_err-p.field-0.0 c.args.p (start_place (processors_of s.caches) c.args.p) c.requires (start-agrees (m.words s.memory) (processors_of s.caches) (table_of s.caches) c.args.p)
    c.in_err-p.ensures.value (q.1 ∙ ap Err q.2)

pub returns : goal.returns
returns g c =
    let m = g.M.Memory in
    let s = c.args.self.now in
    let at = at-processor c.args.p c.in_ok-p.p c.in_ok-p.active (start_place (processors_of s.caches)) c.in_ok-p.ensures.value in
    took m.words m.sound m.spare s (λ (p : ℕ). Start p) c.args.p c.in_ok-p.p c.in_ok-p.active _ at.0
    (turn-start m.words s c.requires c.in_ok-p.p c.in_ok-p.active
    (processors_of c.append.new.self) c.append.new.self.list c.quiet-self.result
    at.1 c.append.ensures.order c.append.ensures.list c.quiet-self.ensures) c.requires.memory refl
