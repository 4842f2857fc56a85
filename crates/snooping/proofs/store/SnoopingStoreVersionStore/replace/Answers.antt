use Rattle.std.proofs.Common.{◌≡◌, ℕ, cond, length, is_some, Some, None, Err, Option, refl, ap, ◌∙◌}
use Rattle.std.proofs.lemmas.Result.{err_from_is_err_and}
use Rattle.versions.specs.declared.turn.Turn.TheVariants.{Replace}
use Rattle.versions.specs.declared.version.Version.{Version}
use Rattle.versions.specs.Plain.{written_to}
use Rattle.versions.specs.Tables.{replace_place, with_processor}
use Rattle.versions.proofs.Judging.{replace-agrees, at-processor}
use Rattle.snooping.specs.Caches.{processors_of, table_of}
use Rattle.snooping.specs.Report.{quiet, written_back, written_last}
use Rattle.snooping.proofs.Snooped.{took, took-refused, turn-replace}
use Rattle.snooping.proofs.store.SnoopingStoreVersionStore.replace.Goals as goal

-- the report of a replacement, which writes one word or none
given-back : (own : Option ℕ) (a : ℕ) → written_last (cond (is_some own) (Some a) None) (cond (is_some own) 1 0) ≡ cond (is_some own) (written_back a 1) quiet
given-back None a = refl
given-back (Some w) a = refl

pub returns-in_err-p : goal.returns-in_err-p
returns-in_err-p g c =
    let m = g.M.Memory in
    let s = c.args.self.now in
    let q = err_from_is_err_and c.from_residual.result c.from_residual.ensures.1 in
    took-refused m.words m.sound m.spare s (Replace c.args.p c.args.a) c.from_residual.result c.in_err-p.field-0.0 c.args.p (replace_place (length (m.words s.memory)) (processors_of s.caches) (table_of s.caches) c.args.p c.args.a) c.requires (replace-agrees (m.words s.memory) (processors_of s.caches) (table_of s.caches) c.args.p c.args.a)
    (c.in_err-p.ensures ∙ ap (λ (n : ℕ). with_processor c.args.p (replace_place n (processors_of s.caches) (table_of s.caches) c.args.p c.args.a)) c.size.ensures) (q.1 ∙ ap Err q.2)

pub returns : goal.returns
returns g c =
    let m = g.M.Memory in
    let s = c.args.self.now in
    let at = at-processor c.args.p c.in_ok-p.p c.in_ok-p.field-0-1 (λ (p : ℕ). replace_place c.size.result (processors_of s.caches) (table_of s.caches) p c.args.a) c.in_ok-p.ensures in
    let n = c.write_own-wrote.result.words in
    let held = c.version-own.result.own in
    let own : held ≡ (table_of s.caches c.in_ok-p.p c.args.a).own = ap (λ (v : Version). v.own) c.version-own.ensures in
    took m.words m.sound m.spare s (λ (p : ℕ). Replace p c.args.a) c.args.p c.in_ok-p.p n _ at.0
    (turn-replace m.words s c.requires c.in_ok-p.p c.args.a c.in_ok-p.field-0-1 n
    (m.words c.write_own-wrote.new.memory) (processors_of c.end_line.new.self) c.end_line.new.self.list c.written_back-self.result
    (at.1 ∙ ap (λ (n : ℕ). replace_place n (processors_of s.caches) (table_of s.caches) c.in_ok-p.p c.args.a) c.size.ensures)
    (c.write_own-wrote.ensures.count ∙ ap (λ (o : Option ℕ). cond (is_some o) 1 0) own) (c.write_own-wrote.ensures.words ∙ ap (λ (o : Option ℕ). written_to o c.args.a (m.words s.memory)) own)
    c.end_line.ensures.order c.end_line.ensures.lines c.end_line.new.self.wide
    (c.written_back-self.ensures
    ∙ (ap (λ (o : Option ℕ). written_last o n) c.write_own-wrote.ensures.last
    ∙ (ap (written_last (cond (is_some held) (Some c.args.a) None)) c.write_own-wrote.ensures.count
    ∙ (given-back held c.args.a ∙ ap (λ (o : Option ℕ). cond (is_some o) (written_back c.args.a 1) quiet) own))))) c.write_own-wrote.ensures.kept c.write_own-wrote.ensures.beside
