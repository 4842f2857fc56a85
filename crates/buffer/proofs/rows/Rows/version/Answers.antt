use Rattle.std.proofs.Common.{◌%◌, [], get_or, sym, ◌∙◌, subst, arith}
use Rattle.std.proofs.lemmas.List.{get_or_default}
use Rattle.buffer.specs.Sets.{GoodSet}
use Rattle.buffer.proofs.rows.Rows.version.Goals as goal

pub version-requires : goal.version-requires
version-requires c =
    let rows = c.args.self.now in
    let i = c.index.result in
    let class = c.index.ensures.value ∙ c.of.ensures in
    let here = sym (get_or_default rows.sets i _ [] (omega (arith, rows.good.count, c.index.ensures.bound))) in
    subst (GoodSet (c.args.a % 16)) here (subst (λ k. GoodSet k (get_or rows.sets i [])) class (rows.good.each i c.index.ensures.bound))
