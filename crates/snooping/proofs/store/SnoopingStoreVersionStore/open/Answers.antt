use Rattle.std.proofs.Common.{◌≡◌, ℕ, List, [], length, sym, ap, ◌∙◌, subst}
use Rattle.versions.specs.Orders.{Apart}
use Rattle.versions.specs.Tables.{Fitting, empty_table}
use Rattle.versions.proofs.Fits.{fitting-empty}
use Rattle.snooping.specs.Caches.{lines_in, processors_of, table_of}
use Rattle.snooping.specs.Grid.{table_by}
use Rattle.snooping.proofs.Keeping.{Laid}
use Rattle.snooping.proofs.Laying.{caches-laid}
use Rattle.snooping.proofs.Snooped.{blank-table, laid-empty}
use Rattle.snooping.proofs.store.SnoopingStoreVersionStore.open.Goals as goal

pub returns-clause-kept : goal.returns-clause-kept
returns-clause-kept g c =
    let ws = g.M.Memory.words c.args.memory in
    let x = c.new.result in
    let e = c.new.ensures.order in
    let table_is : table_of x ≡ empty_table = ap table_by c.new.ensures.lines ∙ blank-table in
    let fits : Fitting (length ws) (processors_of x) (table_of x) = subst (λ (ps : List ℕ). Fitting (length ws) ps (table_of x)) (sym e) (subst (Fitting (length ws) []) (sym table_is) (fitting-empty (length ws))) in
    let laid : Laid ws (processors_of x) (lines_in x) = subst (λ (ps : List ℕ). Laid ws ps (lines_in x)) (sym e) (subst (Laid ws []) (sym c.new.ensures.lines) (laid-empty ws)) in
    record { memory = c.requires; apart = subst Apart (sym e) tt; fits = fits; lines = caches-laid ws (processors_of x) x.list x.wide laid (subst Apart (sym e) tt) fits }
