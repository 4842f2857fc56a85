use Rattle.std.proofs.Common.{List, replicate, refl, ap}
use Rattle.buffer.specs.declared.rows.Row.{Row}
use Rattle.buffer.proofs.Buffering.{new-table}
use Rattle.buffer.proofs.Covering.{covered-new}
use Rattle.buffer.proofs.rows.Rows.new.Goals as goal

pub invariant_of-result : goal.invariant_of-result
invariant_of-result c =
    let law = new-table _ (ap (λ (rs : List Row). replicate 16 rs) c.free.ensures) in
    record { good = law.1; covered = covered-new _ _ refl law.0 }

pub returns : goal.returns
returns c = (new-table _ (ap (λ (rs : List Row). replicate 16 rs) c.free.ensures)).0
