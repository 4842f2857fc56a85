use Rattle.std.proofs.Common.{◌≡◌, ℕ, ◌%◌, true, ◌<◌, [], List, get_or, set, sym, ap, subst, ◌∙◌, arith}
use Rattle.std.proofs.lemmas.List.{get_or_default}
use Rattle.versions.specs.Versions.{is_held}
use Rattle.buffer.specs.declared.rows.Row.{Row}
use Rattle.buffer.specs.Sets.{no_row, in_row, GoodSet, PutInto}
use Rattle.buffer.proofs.Buffering.{rows-mine, put-table}
use Rattle.buffer.proofs.Covering.{covered-put}
use Rattle.buffer.proofs.rows.Rows.put.Goals as goal

pub put-requires : goal.put-requires
put-requires c =
    let rows = c.args.self.now in
    let a = c.args.a in
    let i = c.index.result in
    let class = c.index.ensures.value ∙ c.of-class.ensures in
    let here = sym (get_or_default rows.sets i _ [] (omega (arith, rows.good.count, c.index.ensures.bound))) in
    (record {
      good_set = subst (GoodSet (a % 16)) here (subst (λ k. GoodSet k (get_or rows.sets i [])) class (rows.good.each i c.index.ensures.bound));
      mine = subst (λ (rs : List Row). (j : ℕ) → j < 4 → is_held (in_row (get_or rs j no_row) c.args.p) ≡ true → (get_or rs j no_row).address ≡ a) here
          (rows-mine rows.sets i c.args.p a class rows.good c.requires);
    })

pub invariant_of-self : goal.invariant_of-self
invariant_of-self c =
    let rows = c.args.self.now in
    let i = c.index.result in
    let v = c.args.v in
    let put = subst (λ (rs : List Row). PutInto rs c.args.p c.args.a v c.put.new.self) (get_or_default rows.sets i _ [] (omega (arith, rows.good.count, c.index.ensures.bound))) c.put.ensures in
    let class = c.index.ensures.value ∙ c.of-class.ensures in
    let law = put-table rows.sets _ i put.place c.args.p c.args.a v class rows.good put.bound put.takes (ap (λ (rs : List Row). set rows.sets i rs) put.rows) in
    record { good = law.1; covered = covered-put rows.classes rows.sets _ c.index-2.result c.of-class.result c.args.p c.args.a v c.insert.new.self c.index-2.ensures.value c.of-class.ensures put.bound rows.covered law.0 c.insert.ensures }

pub returns : goal.returns
returns c =
    let rows = c.args.self.now in
    let i = c.index.result in
    let put = subst (λ (rs : List Row). PutInto rs c.args.p c.args.a c.args.v c.put.new.self) (get_or_default rows.sets i _ [] (omega (arith, rows.good.count, c.index.ensures.bound))) c.put.ensures in
    (put-table rows.sets _ i put.place c.args.p c.args.a c.args.v (c.index.ensures.value ∙ c.of-class.ensures) rows.good put.bound put.takes
    (ap (λ (rs : List Row). set rows.sets i rs) put.rows)).0
