use Rattle.std.proofs.Common.{set, ap, ◌∙◌, subst, sym, eqb, not, ◌&&◌, ℕ}
use Rattle.versions.specs.ClassSets.{has}
use Rattle.snooping.specs.declared.line.Line.{Line}
use Rattle.snooping.specs.Lines.{ended}
use Rattle.snooping.proofs.Sweeping.{Swept, sweep-start, sweep-step, sweep-end}
use Rattle.snooping.proofs.cache.Cache.end_all.Goals as goal

pub loop-c-init : goal.loop-c-init
loop-c-init c = sweep-start (ended c.args.event) c.args.self.now.lines c.args.valid
    (λ i l out. let b = c.requires.outside i l out in ap (ended c.args.event) b ∙ (c.requires.ends ∙ sym b))

pub loop-c-preserved : goal.loop-c-preserved
loop-c-preserved c =
    let xs = c.args.self.now.lines in
    let ys = c.loop-c.self.lines in
    let i = c.index.result in
    let low = c.in-Some.ensures.lowest in
    let same = c.index.ensures.value in
    subst (Swept (ended c.args.event) c.take_lowest.new.self xs) (sym (ap (λ (x : Line). set ys i x) c.end.ensures))
    (sweep-step (ended c.args.event) xs c.loop-c.left c.take_lowest.new.self ys i c.requires.full c.loop-c.invariant c.index.ensures.bound (ap (has c.loop-c.left) same ∙ low.inside)
    (λ d l. c.in-Some.ensures.rest d l ∙ sym (ap (λ (j : ℕ). not (eqb d j) && has c.loop-c.left d) same)))

pub returns : goal.returns
returns c = sweep-end (ended c.args.event) c.args.self.now.lines c.loop-c.left c.loop-c.self.lines c.requires.full c.requires.ends c.loop-c.invariant c.in_default.ensures.none
