use Rattle.std.proofs.Common.{refl, set, ap, ◌∙◌, subst, sym, eqb, not, ◌&&◌, ℕ}
use Rattle.versions.specs.ClassSets.{has}
use Rattle.snooping.specs.declared.line.Line.{Line}
use Rattle.snooping.specs.Lines.{unlinked}
use Rattle.snooping.proofs.Sweeping.{Swept, sweep-start, sweep-step, sweep-end}
use Rattle.snooping.proofs.cache.Cache.unlink.Goals as goal

pub loop-c-init : goal.loop-c-init
loop-c-init c = sweep-start (unlinked c.args.order.now) c.args.self.now.lines c.args.touched c.requires.outside

pub loop-c-preserved : goal.loop-c-preserved
loop-c-preserved c =
    let xs = c.args.self.now.lines in
    let ys = c.loop-c.self.lines in
    let i = c.index.result in
    let low = c.in-Some.ensures.lowest in
    let same = c.index.ensures.value in
    subst (Swept (unlinked c.args.order.now) c.take_lowest.new.self xs) (sym (ap (λ (x : Line). set ys i x) c.unlink.ensures))
    (sweep-step (unlinked c.args.order.now) xs c.loop-c.left c.take_lowest.new.self ys i c.requires.full c.loop-c.invariant c.index.ensures.bound (ap (has c.loop-c.left) same ∙ low.inside)
    (λ d l. c.in-Some.ensures.rest d l ∙ sym (ap (λ (j : ℕ). not (eqb d j) && has c.loop-c.left d) same)))

pub returns : goal.returns
returns c = sweep-end (unlinked c.args.order.now) c.args.self.now.lines c.loop-c.left c.loop-c.self.lines c.requires.full refl c.loop-c.invariant c.in_default.ensures.none
