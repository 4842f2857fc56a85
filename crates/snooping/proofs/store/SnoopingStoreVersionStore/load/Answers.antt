use Rattle.std.proofs.Common.{◌≡◌, ℕ, ◌%◌, length, get_or, take, Ok, Err, Result, sym, refl, ap, ◌∙◌, arith}
use Rattle.std.proofs.lemmas.Result.{err_from_is_err_and}
use Rattle.versions.specs.declared.refusal.Refusal.{Refusal}
use Rattle.versions.specs.declared.turn.Turn.TheVariants.{Load}
use Rattle.versions.specs.Tables.{access_place, with_processor}
use Rattle.versions.specs.Versions.{is_held, is_own}
use Rattle.versions.proofs.Judging.{load-agrees, ok-access, at-processor}
use Rattle.versions.proofs.Tabling.{placed}
use Rattle.snooping.specs.declared.line.Line.{Line}
use Rattle.snooping.specs.declared.report.Supplier.{Supplier}
use Rattle.snooping.specs.Caches.{lines_in, processors_of, table_of}
use Rattle.versions.specs.Tables.{last_that}
use Rattle.snooping.specs.Lines.{version_at}
use Rattle.snooping.specs.Report.{bus_read, supplied_by}
use Rattle.snooping.specs.Snooping.{supplied_word}
use Rattle.snooping.proofs.Snooped.{took, took-refused, sound-linked, turn-load-hit, turn-load-miss}
use Rattle.snooping.proofs.store.SnoopingStoreVersionStore.load.Goals as goal

same_pair : (x y : ℕ × Supplier) → ◌≡◌ {A = Result (ℕ × Supplier) Refusal} (Ok x) (Ok y) → x ≡ y
same_pair x y e = cc

pub returns-in_err-p : goal.returns-in_err-p
returns-in_err-p g c =
    let m = g.M.Memory in
    let s = c.args.self.now in
    let q = err_from_is_err_and c.from_residual.result c.from_residual.ensures.1 in
    took-refused m.words m.sound m.spare s (Load c.args.p c.args.a) c.from_residual.result c.in_err-p.field-0.0 c.args.p (access_place (length (m.words s.memory)) (processors_of s.caches) (table_of s.caches) c.args.p c.args.a) c.requires (load-agrees (m.words s.memory) (processors_of s.caches) (table_of s.caches) c.args.p c.args.a)
    (c.in_err-p.ensures ∙ ap (λ (n : ℕ). with_processor c.args.p (access_place n (processors_of s.caches) (table_of s.caches) c.args.p c.args.a)) c.size.ensures) (q.1 ∙ ap Err q.2)

pub returns-then-is_held : goal.returns-then-is_held
returns-then-is_held g c =
    let m = g.M.Memory in
    let s = c.args.self.now in
    let at = at-processor c.args.p c.in_ok-p.p c.in_ok-p.k (λ (p : ℕ). access_place c.size.result (processors_of s.caches) (table_of s.caches) p c.args.a) c.in_ok-p.ensures in
    let line = c.line-line.ensures ∙ ap (lines_in s.caches c.in_ok-p.p) c.of.ensures in
    let version = c.version.ensures ∙ ap (λ (x : Line). version_at x c.args.a) line in
    took m.words m.sound m.spare s (λ (p : ℕ). Load p c.args.a) c.args.p c.in_ok-p.p c.line-line.result.word _ at.0
    (turn-load-hit m.words s c.requires c.in_ok-p.p c.args.a c.in_ok-p.k c.line-line.result.word c.quiet-self.result
    (at.1 ∙ ap (λ (n : ℕ). access_place n (processors_of s.caches) (table_of s.caches) c.in_ok-p.p c.args.a) c.size.ensures)
    (ap is_held (sym version) ∙ (sym c.is_held.ensures ∙ c.if-is_held.true)) (ap (λ (x : Line). x.word) line) c.quiet-self.ensures) c.requires.memory refl

pub supplied-requires-clause-k_in_bounds : goal.supplied-requires-clause-k_in_bounds
supplied-requires-clause-k_in_bounds g c =
    let s = c.args.self.now in
    let ps = processors_of s.caches in
    let at = at-processor c.args.p c.in_ok-p.p c.in_ok-p.k (λ (p : ℕ). access_place c.size.result ps (table_of s.caches) p c.args.a) c.in_ok-p.ensures in
    omega (arith, (placed ps c.in_ok-p.p c.in_ok-p.k (ok-access c.size.result ps (table_of s.caches) c.in_ok-p.p c.args.a c.in_ok-p.k at.1).0).within)

pub take_and_link-requires-clause-linked : goal.take_and_link-requires-clause-linked
take_and_link-requires-clause-linked g c = sound-linked g.M.Memory.words c.args.self.now c.requires c.args.a

pub returns : goal.returns
returns g c =
    let m = g.M.Memory in
    let s = c.args.self.now in
    let at = at-processor c.args.p c.in_ok-p.p c.in_ok-p.k (λ (p : ℕ). access_place c.size.result (processors_of s.caches) (table_of s.caches) p c.args.a) c.in_ok-p.ensures in
    let a = c.args.a in
    let line = c.line-line.ensures ∙ ap (lines_in s.caches c.in_ok-p.p) c.of.ensures in
    let version = c.version.ensures ∙ ap (λ (x : Line). version_at x a) line in
    let w = c.in_ok-w.w in
    let nearest = last_that (λ (q : ℕ). is_own (table_of s.caches q a)) (take c.in_ok-p.k (processors_of s.caches)) in
    let given : (w, c.in_ok-w.supplier) ≡ (supplied_word (lines_in s.caches) (a % 16) (get_or (m.words s.memory) a 0) nearest, supplied_by nearest) = same_pair _ _ c.in_ok-w.ensures.answer in
    took m.words m.sound m.spare s (λ (p : ℕ). Load p a) c.args.p c.in_ok-p.p w _ at.0
    (turn-load-miss m.words s c.requires c.in_ok-p.p a c.in_ok-p.k w nearest
    (m.words c.supplied.new.memory) (processors_of c.take_and_link.new.self) c.take_and_link.new.self.list c.bus_read-self.result
    (at.1 ∙ ap (λ (n : ℕ). access_place n (processors_of s.caches) (table_of s.caches) c.in_ok-p.p c.args.a) c.size.ensures)
    (ap is_held (sym version) ∙ (sym c.is_held.ensures ∙ c.if-is_held.false)) refl (ap (λ (x : ℕ × Supplier). x.0) given) c.supplied.ensures.words c.take_and_link.ensures.order
    c.take_and_link.ensures.lines c.take_and_link.new.self.wide
    (c.bus_read-self.ensures ∙ ap (λ (x : ℕ × Supplier). bus_read a x.1) given)) c.supplied.ensures.kept c.supplied.ensures.beside
