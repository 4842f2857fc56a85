use Rattle.std.proofs.Common.{set, ap, ◌∙◌, arith}
use Rattle.buffer.specs.declared.rows.Row.{Row}
use Rattle.buffer.specs.Sets.{no_row, without_row}
use Rattle.versions.proofs.Mapping.{mapped-step}
use Rattle.buffer.proofs.rows.Set.clear.Goals as goal

pub loop-row-preserved : goal.loop-row-preserved
loop-row-preserved c =
    ap (λ (r : Row). set c.loop-row.row-items c.loop-row.row-index r) c.clear.ensures
    ∙ mapped-step (without_row c.args.p) c.self.inside.rows c.loop-row.row-items c.loop-row.row-index no_row (omega (arith, c.loop-row-test.true, c.self.invariant)) c.loop-row.invariant
