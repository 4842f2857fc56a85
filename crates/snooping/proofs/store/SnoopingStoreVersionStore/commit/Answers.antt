use Rattle.std.proofs.Common.{ℕ, Err, ap, ◌∙◌}
use Rattle.std.proofs.lemmas.Result.{err_from_is_err_and}
use Rattle.versions.specs.declared.turn.Turn.TheVariants.{Commit}
use Rattle.versions.specs.Tables.{commit_place}
use Rattle.versions.proofs.Judging.{commit-agrees, at-processor}
use Rattle.snooping.specs.Caches.{processors_of, table_of}
use Rattle.snooping.proofs.Snooped.{took, took-refused, turn-commit}
use Rattle.snooping.proofs.store.SnoopingStoreVersionStore.commit.Goals as goal

pub returns-in_err-p : goal.returns-in_err-p
returns-in_err-p g c =
    let m = g.M.Memory in
    let s = c.args.self.now in
    let q = err_from_is_err_and c.from_residual.result c.from_residual.ensures.1 in
    took-refused m.words m.sound m.spare s (Commit c.args.p) c.from_residual.result c.in_err-p.field-0.0 c.args.p (commit_place (processors_of s.caches) c.args.p) c.requires (commit-agrees (m.words s.memory) (processors_of s.caches) (table_of s.caches) c.args.p)
    c.in_err-p.ensures (q.1 ∙ ap Err q.2)

pub returns : goal.returns
returns g c =
    let m = g.M.Memory in
    let s = c.args.self.now in
    let at = at-processor c.args.p c.in_ok-p.p c.in_ok-p.field-0-1 (commit_place (processors_of s.caches)) c.in_ok-p.ensures in
    let wrote = c.write_back-wrote in
    took m.words m.sound m.spare s (λ (p : ℕ). Commit p) c.args.p c.in_ok-p.p wrote.result.words _ at.0
    (turn-commit m.words s c.requires c.in_ok-p.p c.in_ok-p.field-0-1 wrote.result.words wrote.result.last
    (m.words wrote.new.memory) (processors_of c.retire.new.self) c.retire.new.self.list c.written_back-self.result at.1 wrote.ensures.count wrote.ensures.last wrote.ensures.words
    c.retire.ensures.order c.retire.ensures.lines c.retire.new.self.wide c.written_back-self.ensures) wrote.ensures.kept wrote.ensures.beside
