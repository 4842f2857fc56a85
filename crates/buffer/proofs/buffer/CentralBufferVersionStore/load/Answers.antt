use Rattle.std.proofs.Common.{ℕ, length, Err, sym, ap, ◌∙◌, subst}
use Rattle.std.proofs.lemmas.Result.{err_from_is_err_and}
use Rattle.buffer.specs.declared.tasks.Tasks.{Tasks}
use Rattle.versions.specs.declared.turn.Turn.TheVariants.{Load}
use Rattle.buffer.specs.Rows.{HoldsNoOther}
use Rattle.buffer.specs.Tasks.{table_of}
use Rattle.versions.specs.Tables.{Table, access_place, with_processor, with_version}
use Rattle.versions.specs.Versions.{with_load}
use Rattle.versions.proofs.Judging.{load-agrees, at-processor, ok-access}
use Rattle.versions.proofs.Serving.{class-free, serve-load, ok-value}
use Rattle.versions.proofs.Tabling.{placed}
use Rattle.versions.proofs.Ordering.{few}
use Rattle.buffer.proofs.Taking.{turn-refused, turn-served}
use Rattle.buffer.proofs.buffer.CentralBufferVersionStore.load.Goals as goal

pub returns-in_err-p : goal.returns-in_err-p
returns-in_err-p g c =
    let m = g.M.Memory in
    let b = c.args.self.now in
    let q = err_from_is_err_and c.from_residual.result c.from_residual.ensures.1 in
    let place = λ (n : ℕ). access_place n b.tasks.order (table_of b.tasks) c.args.p c.args.a in
    turn-refused m.words m.sound m.spare b (Load c.args.p c.args.a) c.from_residual.result c.in_err-p.field-0.0 c.args.p (place _) c.requires
    (load-agrees (m.words b.memory) b.tasks.order (table_of b.tasks) c.args.p c.args.a) (c.in_err-p.ensures ∙ ap (λ (n : ℕ). with_processor c.args.p (place n)) c.size.ensures) (q.1 ∙ ap Err q.2)

pub seen-requires : goal.seen-requires
seen-requires g c =
    let b = c.args.self.now in
    let ps = b.tasks.order in
    let at = at-processor c.args.p c.in_ok-p.p c.in_ok-p.k (λ (p : ℕ). access_place c.size.result ps (table_of b.tasks) p c.args.a) c.in_ok-p.ensures in
    let y = ok-access (length (g.M.Memory.words b.memory)) ps (table_of b.tasks) c.in_ok-p.p c.args.a c.in_ok-p.k
    (at.1 ∙ ap (λ (n : ℕ). access_place n ps (table_of b.tasks) c.in_ok-p.p c.args.a) c.size.ensures) in
    (record { sound = c.requires.memory; k_in_bounds = (placed ps c.in_ok-p.p c.in_ok-p.k y.0).within; few = few ps c.requires.apart; a_in_bounds = y.2 })

pub note_load-requires : goal.note_load-requires
note_load-requires g c =
    let b = c.args.self.now in
    let ps = b.tasks.order in
    let n = length (g.M.Memory.words b.memory) in
    let at = at-processor c.args.p c.in_ok-p.p c.in_ok-p.k (λ (p : ℕ). access_place c.size.result ps (table_of b.tasks) p c.args.a) c.in_ok-p.ensures in
    let y = ok-access n ps (table_of b.tasks) c.in_ok-p.p c.args.a c.in_ok-p.k
    (at.1 ∙ ap (λ (n : ℕ). access_place n ps (table_of b.tasks) c.in_ok-p.p c.args.a) c.size.ensures) in
    record {
      other = subst (λ (t : Tasks). HoldsNoOther (table_of t c.in_ok-p.p) c.args.a) (sym c.seen.ensures.tasks) (class-free n ps (table_of b.tasks) c.in_ok-p.p c.args.a c.requires.fits y.3);
      version = c.version-version.ensures ∙ ap (λ (t : Tasks). table_of t c.in_ok-p.p c.args.a) (sym c.seen.ensures.tasks);
    }

pub returns : goal.returns
returns g c =
    let m = g.M.Memory in
    let b = c.args.self.now in
    let a = c.args.a in
    let ps = b.tasks.order in
    let table = table_of b.tasks in
    let same = c.seen.ensures.tasks in
    let at = at-processor c.args.p c.in_ok-p.p c.in_ok-p.k (λ (p : ℕ). access_place c.size.result ps table p a) c.in_ok-p.ensures in
    turn-served m.words m.sound m.spare b (λ (p : ℕ). Load p a) c.args.p c.in_ok-p.p c.in_ok-w.w _ at.0
    (serve-load (m.words b.memory) ps table c.requires.apart c.requires.fits c.in_ok-p.p a c.in_ok-p.k c.in_ok-w.w
    (m.words c.seen.new.self.memory) c.note_load.new.self.order (table_of c.note_load.new.self)
    (at.1 ∙ ap (λ (n : ℕ). access_place n ps table c.in_ok-p.p a) c.size.ensures)
    (ok-value c.in_ok-w.w _ c.in_ok-w.ensures.answer) c.seen.ensures.words (c.note_load.ensures.order ∙ ap (λ (t : Tasks). t.order) same)
    (c.note_load.ensures.table ∙ ap (λ (t : Table). with_version t c.in_ok-p.p a (with_load (t c.in_ok-p.p a))) (ap table_of same)))
    c.seen.ensures.kept c.seen.ensures.beside
