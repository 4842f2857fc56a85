use Rattle.std.proofs.Common.{ℕ, refl, sym, ap, ◌∙◌, subst}
use Rattle.snooping.specs.declared.state.LineEvent.TheVariants.{Commit}
use Rattle.snooping.specs.Caches.{lines_in}
use Rattle.snooping.specs.Grid.{Tagged, with_cache}
use Rattle.snooping.specs.Lines.{ended}
use Rattle.snooping.proofs.Covering.{covered-ended}
use Rattle.snooping.proofs.Grids.{cache-mapped, wide-mapped, tagged-ended}
use Rattle.snooping.proofs.caches.Caches.retire.Goals as goal

pub invariant_of-self : goal.invariant_of-self
invariant_of-self c =
    let s = c.args.self.now in
    let p = c.index-i.result in
    let x = c.end_all.new.self in
    record {
      covered = covered-ended s.list s.valid s.covered s.wide p x c.index-i.ensures.bound (ended Commit) c.new.result (λ y. refl) c.end_all.ensures;
      wide = wide-mapped s.list p x s.wide c.index-i.ensures.bound (ended Commit) c.end_all.ensures;
      tagged = subst Tagged (sym (cache-mapped s.list p x s.wide c.index-i.ensures.bound (ended Commit) refl c.end_all.ensures)) (tagged-ended (lines_in s) p s.tagged);
    }

pub returns-clause-lines : goal.returns-clause-lines
returns-clause-lines c =
    let s = c.args.self.now in
    cache-mapped s.list c.index-i.result c.end_all.new.self s.wide c.index-i.ensures.bound (ended Commit) refl c.end_all.ensures
    ∙ ap (λ (r : ℕ). with_cache (lines_in s) r (ended Commit)) c.index-i.ensures.value
