use Rattle.std.proofs.Common.{◌≡◌, ℕ, ◌%◌, ◌&&◌, eqb, cond, [], List, map, set, get_or, ap, ◌∙◌, arith, subst, sym}
use Rattle.std.proofs.lemmas.List.{get_or_default}
use Rattle.versions.specs.Versions.{no_version}
use Rattle.buffer.specs.declared.rows.Row.{Row}
use Rattle.buffer.specs.Rows.{table_in}
use Rattle.buffer.specs.Sets.{without_row, in_sets, GoodSets}
use Rattle.buffer.proofs.Buffering.{clear-table}
use Rattle.buffer.proofs.Covering.{covered-less, cleared-step}
use Rattle.buffer.proofs.rows.Rows.clear.Goals as goal

pub invariant_of-self : goal.invariant_of-self
invariant_of-self c =
    let rows = c.loop-c.self in
    let p = c.args.p in
    let i = c.index-in-Some.result in
    let law = clear-table rows.sets i p rows.good c.index-in-Some.ensures.bound in
    let is : set rows.sets i c.clear.new.self ≡ set rows.sets i (map (without_row p) (get_or rows.sets i [])) =
    ap (set rows.sets i) (c.clear.ensures ∙ ap (map (without_row p)) (sym (get_or_default rows.sets i [] _ (omega (arith, rows.good.count, c.index-in-Some.ensures.bound))))) in
    record {
      good = subst GoodSets (sym is) law.1;
      covered = covered-less rows.classes rows.sets _ (λ q b. eqb q p && eqb (b % 16) i) (λ q b. ap (λ (t : List (List Row)). in_sets t q b) is ∙ law.0 q b) rows.covered;
    }

pub loop-c-preserved : goal.loop-c-preserved
loop-c-preserved c =
    let rows = c.loop-c.self in
    let p = c.args.p in
    let i = c.index-in-Some.result in
    let law = clear-table rows.sets i p rows.good c.index-in-Some.ensures.bound in
    let is : set rows.sets i c.clear.new.self ≡ set rows.sets i (map (without_row p) (get_or rows.sets i [])) =
    ap (set rows.sets i) (c.clear.ensures ∙ ap (map (without_row p)) (sym (get_or_default rows.sets i [] _ (omega (arith, rows.good.count, c.index-in-Some.ensures.bound))))) in
    cleared-step c.loop-c.left c.take_lowest.new.self c.in-Some.c p (table_in c.args.self.now) (table_in rows) (in_sets (set rows.sets i c.clear.new.self)) c.in-Some.ensures.lowest.inside c.in-Some.ensures.rest
    (subst (λ (k : ℕ). (q b : ℕ) → in_sets (set rows.sets i c.clear.new.self) q b ≡ cond (eqb q p && eqb (b % 16) k) no_version (table_in rows q b)) c.index-in-Some.ensures.value
    (λ q b. ap (λ (t : List (List Row)). in_sets t q b) is ∙ law.0 q b))
    c.loop-c.invariant
