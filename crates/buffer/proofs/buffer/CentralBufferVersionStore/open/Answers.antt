use Rattle.std.proofs.Common.{ℕ, List, [], length, sym, subst}
use Rattle.versions.specs.Orders.{Apart}
use Rattle.versions.specs.Tables.{Fitting}
use Rattle.buffer.specs.Tasks.{table_of}
use Rattle.versions.proofs.Fits.{fitting-empty}
use Rattle.buffer.proofs.buffer.CentralBufferVersionStore.open.Goals as goal

pub returns-clause-kept : goal.returns-clause-kept
returns-clause-kept g c =
    let n = length (g.M.Memory.words c.args.memory) in
    record {
      memory = c.requires;
      apart = subst Apart (sym c.new.ensures.order) tt;
      fits = subst (λ (ps : List ℕ). Fitting n ps (table_of c.new.result)) (sym c.new.ensures.order) (subst (Fitting n []) (sym c.new.ensures.table) (fitting-empty n));
    }
