use Rattle.std.proofs.Common.{◌≡◌, ◌<◌, false, ℕ, List, map, get_or, is_some, set, sym, refl, ap, ◌∙◌, subst, arith}
use Rattle.snooping.specs.declared.state.LineEvent.TheVariants.{Squash}
use Rattle.versions.specs.ClassSets.{has, no_class}
use Rattle.versions.specs.Orders.{place_in}
use Rattle.snooping.specs.Caches.{lines_in, processors_of}
use Rattle.snooping.specs.Grid.{no_cache, line_in, Tagged, Wide, Covered}
use Rattle.snooping.specs.Lines.{unlinked, ended}
use Rattle.snooping.specs.declared.cache.Cache.{Cache}
use Rattle.snooping.proofs.Covering.{covered-mapped, covered-ended, pointer-stays, outside-both}
use Rattle.snooping.proofs.Grids.{cut-none, cut-yet, cache-mapped, wide-mapped, cut-active, cut-idle, cut-all-caches, tagged-cut}
use Rattle.snooping.proofs.caches.Caches.trim.Goals.{then-running-p, else-running-p}
use Rattle.snooping.proofs.caches.Caches.trim.Goals as goal

pub loop-p-init : goal.loop-p-init
loop-p-init c = let s = c.args.self.now in record { wide = s.wide; covered = s.covered; lines = cut-none (processors_of s) (lines_in s); order = refl }

pub unlink-requires-clause-full : goal.unlink-requires-clause-full
unlink-requires-clause-full c = c.loop-p.invariant.wide.lines c.loop-p.p c.loop-p-test.true

pub unlink-requires-clause-running : goal.unlink-requires-clause-running
unlink-requires-clause-running c q = c.running-running.ensures q ∙ ap (λ (ps : List ℕ). is_some (place_in ps q)) (sym c.loop-p.invariant.order)

pub unlink-requires-clause-outside : goal.unlink-requires-clause-outside
unlink-requires-clause-outside c d l out =
    let s = c.args.self.now in
    let ps = processors_of s in
    let p = c.loop-p.p in
    let i = c.loop-p.invariant in
    let touched = c.left_over-touched.result in
    let here = cut-yet ps (lines_in s) (line_in c.loop-p.cache-items) p i.lines d in
    let left = λ (r e : ℕ) (h : r < 4) (idle : is_some (place_in ps r) ≡ false) (none : has touched e ≡ false). c.left_over-touched.ensures r e h (c.running-running.ensures r ∙ idle) none in
    outside-both c.loop-p.self.1.1.1.0 (line_in c.loop-p.cache-items p d) (has (get_or c.loop-p.self.1.1.0 p no_class) d) (has touched d) (has c.and.result d) (c.and.ensures d) out
    (λ none. i.covered.outside p d c.loop-p-test.true l none)
    (λ none. ap (unlinked c.loop-p.self.1.1.1.0) here
    ∙ (ap (λ (o : List ℕ). unlinked o (lines_in s p d)) i.order ∙ (pointer-stays s.list s.valid s.covered s.wide c.requires ps touched left p d l none ∙ sym here)))

pub end_all-requires-clause-full : goal.end_all-requires-clause-full
end_all-requires-clause-full c = c.loop-p.invariant.wide.lines c.loop-p.p c.loop-p-test.true

pub end_all-requires-clause-outside : goal.end_all-requires-clause-outside
end_all-requires-clause-outside c d l out = c.loop-p.invariant.covered.outside c.loop-p.p d c.loop-p-test.true l out

pub loop-p-preserved : goal.loop-p-preserved
loop-p-preserved c =
    let s = c.args.self.now in
    let ps = processors_of s in
    let items = c.loop-p.cache-items in
    let sets = c.loop-p.self.1.1.0 in
    let p = c.loop-p.p in
    let i = c.loop-p.invariant in
    let low = c.loop-p-test.true in
    elim c.if-running-p.branch [
      | then-running-p w ↦
          let x = w.unlink.new.self in
          let is = w.unlink.ensures ∙ ap (λ (o : List ℕ). map (unlinked o) (get_or items p no_cache).lines) i.order in record {
            wide = subst Wide (sym w.cache-items-is) (wide-mapped items p x i.wide low (unlinked ps) is);
            covered = subst (λ (l : List Cache). Covered l c.if-running-p.self.1.1.0) (sym w.cache-items-is)
                (subst (Covered (set items p x)) (sym (ap (λ y. y.1.1.0) w.self-is)) (covered-mapped items sets i.covered i.wide p x low (unlinked ps) refl is));
            lines = ap line_in w.cache-items-is
                ∙ cut-active ps (lines_in s) (line_in items) p i.lines (line_in (set items p x)) (sym (c.running-running.ensures p) ∙ w.if-running-p.true) (cache-mapped items p x i.wide low (unlinked ps) refl is);
            order = ap (λ y. y.1.1.1.0) w.self-is ∙ i.order;
          }
      | else-running-p w ↦
          let x = w.end_all.new.self in record {
            wide = subst Wide (sym w.cache-items-is) (wide-mapped items p x i.wide low (ended Squash) w.end_all.ensures);
            covered = subst (λ (l : List Cache). Covered l c.if-running-p.self.1.1.0) (sym w.cache-items-is)
                (subst (Covered (set items p x)) (sym (ap (λ y. y.1.1.0) w.self-is)) (covered-ended items sets i.covered i.wide p x low (ended Squash) w.new.result (λ y. refl) w.end_all.ensures));
            lines = ap line_in w.cache-items-is
                ∙ cut-idle ps (lines_in s) (line_in items) p i.lines (line_in (set items p x)) (sym (c.running-running.ensures p) ∙ w.if-running-p.false) (cache-mapped items p x i.wide low (ended Squash) refl w.end_all.ensures);
            order = ap (λ y. y.1.1.1.0) w.self-is ∙ i.order;
          }
    ]

pub invariant_of-self-in-loop-p : goal.invariant_of-self-in-loop-p
invariant_of-self-in-loop-p c =
    let s = c.args.self.now in
    let i = c.loop-p.invariant in record {
      wide = i.wide;
      covered = i.covered;
      tagged = subst Tagged (sym (cut-all-caches (processors_of s) s.list (line_in c.loop-p.cache-items) c.loop-p.p (omega (arith, i.wide.caches)) s.wide i.lines)) (tagged-cut (processors_of s) (lines_in s) s.tagged);
    }

pub returns-clause-lines : goal.returns-clause-lines
returns-clause-lines c =
    let s = c.args.self.now in
    let i = c.loop-p.invariant in
    cut-all-caches (processors_of s) s.list (line_in c.loop-p.cache-items) c.loop-p.p (omega (arith, i.wide.caches)) s.wide i.lines

pub returns-clause-order : goal.returns-clause-order
returns-clause-order c = c.loop-p.invariant.order
