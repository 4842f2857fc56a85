use Rattle.std.proofs.Common.{◌≡◌, ℕ, ◌%◌, ◌<◌, ◌||◌, eqb, get_or, set, sym, refl, ap, ◌∙◌, subst, arith}
use Rattle.versions.specs.ClassSets.{has, no_class}
use Rattle.snooping.specs.Caches.{lines_in}
use Rattle.snooping.specs.Grid.{Tagged, Covered, with_line}
use Rattle.snooping.specs.Lines.{with_taken}
use Rattle.snooping.proofs.Covering.{covered-taken}
use Rattle.snooping.proofs.Grids.{wide-line, line-changed}
use Rattle.snooping.proofs.Linking.{tagged-taken}
use Rattle.snooping.proofs.caches.Caches.take.Goals as goal

pub invariant_of-self : goal.invariant_of-self
invariant_of-self c =
    let s = c.args.self.now in
    let i = c.index.result in
    let j = c.index-2.result in
    let a = c.args.a in
    let low : a % 16 < 16 = omega arith in
    let same : j ≡ i = c.index-2.ensures.value ∙ sym c.index.ensures.value in
    let x = c.take.new.self in
    let z = c.insert.new.self in
    record {
      wide = wide-line s.list i x s.wide c.index.ensures.bound (a % 16) _ c.take.ensures;
      covered = subst (λ (k : ℕ). Covered (set s.list i x) (set s.valid k z)) (sym same)
          (covered-taken s.list s.valid s.covered s.wide i x c.index.ensures.bound (a % 16) _ z low c.take.ensures
          (λ d. c.insert.ensures d ∙ (ap (λ (b : ℕ). eqb d b || has (get_or s.valid j no_class) d) c.of.ensures ∙ ap (λ (k : ℕ). eqb d (a % 16) || has (get_or s.valid k no_class) d) same)));
      tagged = subst Tagged (sym (line-changed s.list i x s.wide c.index.ensures.bound (a % 16) _ low c.take.ensures)) (tagged-taken (lines_in s) i a _ refl s.tagged);
    }

pub returns-clause-lines : goal.returns-clause-lines
returns-clause-lines c =
    let s = c.args.self.now in
    let a = c.args.a in
    let low : a % 16 < 16 = omega arith in
    line-changed s.list c.index.result c.take.new.self s.wide c.index.ensures.bound (a % 16) _ low c.take.ensures
    ∙ ap (λ (r : ℕ). with_line (lines_in s) r (a % 16) (with_taken c.args.event (lines_in s r (a % 16)) a c.args.w)) c.index.ensures.value
