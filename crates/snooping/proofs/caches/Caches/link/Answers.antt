use Rattle.std.proofs.Common.{◌≡◌, ℕ, ◌%◌, ◌<◌, true, sym, ap, ◌∙◌, subst, arith}
use Rattle.std.proofs.lemmas.Bool.{true≢false}
use Rattle.versions.specs.Versions.{is_held}
use Rattle.snooping.specs.Caches.{lines_in, table_of}
use Rattle.snooping.specs.Grid.{Tagged, with_line}
use Rattle.snooping.specs.Lines.{with_next}
use Rattle.snooping.proofs.Covering.{covered-held, covered-line}
use Rattle.snooping.proofs.Grids.{wide-line, line-changed}
use Rattle.snooping.proofs.Keeping.{shown}
use Rattle.snooping.proofs.Linking.{tagged-link}
use Rattle.snooping.proofs.caches.Caches.link.Goals as goal

pub invariant_of-self : goal.invariant_of-self
invariant_of-self c =
    let s = c.args.self.now in
    let i = c.index.result in
    let a = c.args.a in
    let low : a % 16 < 16 = omega arith in
    let here : is_held (table_of s i a) ≡ true = ap (λ (r : ℕ). is_held (table_of s r a)) c.index.ensures.value ∙ c.requires in
    let x = c.link.new.self in
    record {
      wide = wide-line s.list i x s.wide c.index.ensures.bound (a % 16) _ c.link.ensures;
      covered = covered-line s.list s.valid s.covered s.wide i x c.index.ensures.bound (a % 16) _ low c.link.ensures
          (λ out. absurd (true≢false (sym (covered-held s.list s.valid s.covered i (a % 16) c.index.ensures.bound low (shown (lines_in s) i a here).1) ∙ out)));
      tagged = subst Tagged (sym (line-changed s.list i x s.wide c.index.ensures.bound (a % 16) _ low c.link.ensures)) (tagged-link (lines_in s) i (a % 16) c.args.next s.tagged);
    }

pub returns-clause-lines : goal.returns-clause-lines
returns-clause-lines c =
    let s = c.args.self.now in
    let a = c.args.a in
    let low : a % 16 < 16 = omega arith in
    line-changed s.list c.index.result c.link.new.self s.wide c.index.ensures.bound (a % 16) _ low c.link.ensures
    ∙ ap (λ (r : ℕ). with_line (lines_in s) r (a % 16) (with_next (lines_in s r (a % 16)) c.args.next)) c.index.ensures.value
