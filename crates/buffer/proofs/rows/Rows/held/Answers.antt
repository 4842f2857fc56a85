use Rattle.std.proofs.Common.{[], List, subst, arith}
use Rattle.std.proofs.lemmas.List.{get_or_default}
use Rattle.versions.specs.Tables.{HeldIn}
use Rattle.buffer.specs.declared.rows.Row.{Row}
use Rattle.buffer.specs.Rows.{table_in}
use Rattle.buffer.specs.Sets.{HeldBefore}
use Rattle.buffer.proofs.Buffering.{held-table}
use Rattle.buffer.proofs.rows.Rows.held.Goals as goal

pub returns : goal.returns
returns c =
    let rows = c.args.self.now in
    let set = get_or_default rows.sets c.index.result _ [] (omega (arith, rows.good.count, c.index.ensures.bound)) in
    subst (λ k. HeldIn (table_in rows c.args.p) k c.held.result) c.index.ensures.value
    (held-table rows.sets c.args.p c.index.result c.held.result rows.good c.index.ensures.bound (subst (λ (rs : List Row). HeldBefore rs c.args.p 4 c.held.result) set c.held.ensures))
