use Rattle.std.proofs.Common.{rules, tests, subst, ◌∙◌}
use Rattle.versions.specs.Tables.{task_by, HeldIn}
use Rattle.versions.proofs.Classes.{taken-test, class-taken}
use Rattle.versions.proofs.tasks.TaskTable.class_taken.Goals as goal

pub returns : goal.returns
returns g c = λ n fits.
    let p = c.args.p in
    let table = g.Self.TaskTable.table c.args.self.now in
    taken-test c.held.result c.args.a c.is_some_and.result c.is_some_and.ensures (λ b m. search (rules, tests))
    ∙ class-taken (task_by table p) c.args.a n c.held.result (subst (λ k. HeldIn (table p) k c.held.result) c.of.ensures c.held.ensures) (fits.inside p) (fits.one p)
