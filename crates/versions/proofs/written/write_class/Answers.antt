use Rattle.std.proofs.Common.{cond, is_some, Some, None, sym, ap, ◌∙◌}
use Rattle.versions.specs.declared.version.Version.{Version}
use Rattle.versions.specs.Plain.{written_to}
use Rattle.versions.proofs.Classes.{class-written, class-inside, class-address}
use Rattle.versions.proofs.written.write_class.Goals as goal

pub returns-in-Some-clause-class : goal.returns-in-Some-clause-class
returns-in-Some-clause-class g c = λ ws before.
    let at = g.T.TaskTable.table c.args.tasks.now c.args.p in
    let vs = g.M.Memory.words c.args.memory.now in
    let a = c.in-Some.a in
    class-written at c.args.c ws vs c.write_own.result.words (Some a) c.in-Some.ensures (c.requires.fitting.one c.args.p) (sym before)
    (c.write_own.ensures.count ∙ ap (λ (v : Version). cond (is_some v.own) 1 0) c.version.ensures) _
    (c.write_own.ensures.words ∙ ap (λ (v : Version). written_to v.own a vs) c.version.ensures)
    (class-inside at c.args.c ws vs a (sym before) (c.requires.fitting.inside c.args.p a c.in-Some.ensures.1))

pub returns-in-Some-clause-address : goal.returns-in-Some-clause-address
returns-in-Some-clause-address g c =
    let at = g.T.TaskTable.table c.args.tasks.now c.args.p in
    c.write_own.ensures.last
    ∙ (ap (λ (v : Version). cond (is_some v.own) (Some c.in-Some.a) None) c.version.ensures
    ∙ class-address at c.args.c _ (c.requires.fitting.one c.args.p) (Some c.in-Some.a) c.in-Some.ensures (c.requires.fitting.inside c.args.p))

pub returns-in-None-clause-address : goal.returns-in-None-clause-address
returns-in-None-clause-address g c =
    let at = g.T.TaskTable.table c.args.tasks.now c.args.p in
    c.default.ensures.1 ∙ class-address at c.args.c _ (c.requires.fitting.one c.args.p) None c.in-None.ensures (c.requires.fitting.inside c.args.p)
