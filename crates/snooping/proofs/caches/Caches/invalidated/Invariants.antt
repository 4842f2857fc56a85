use Rattle.std.proofs.Common.{◌≡◌, ◌-◌, ◌*◌, ◌≤◌, min, take, drop}
use Rattle.snooping.specs.Report.{powers}
use Rattle.snooping.proofs.caches.Caches.invalidated.Given as goal

-- the places from k on and before end are counted, so far
abbrev pub invariant-loop-i : goal.invariant-loop-i
invariant-loop-i l = record {
  mask : l.mask ≡ powers (take (min l.i l.end - l.k) (drop l.k l.p-items));
  bound : l.mask ≤ 8 * l.i;
}
