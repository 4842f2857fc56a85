use Rattle.std.proofs.Common.{◌≡◌}
use Rattle.snooping.specs.Grid.{line_in, Wide, Covered}
use Rattle.snooping.proofs.Grids.{cut_below}
use Rattle.snooping.proofs.caches.Caches.trim.Given as goal

-- the caches before p are cut; beside them stand the sets and the order
abbrev pub invariant-loop-p : goal.invariant-loop-p
invariant-loop-p l = record {
  wide : Wide l.cache-items;
  covered : Covered l.cache-items l.self.1.1.0;
  lines : line_in l.cache-items ≡ cut_below l.p l.fn.self.order (line_in l.fn.self.list);
  order : l.self.1.1.1.0 ≡ l.fn.self.order;
}
