use Rattle.std.proofs.Common.{◌≡◌, ◌++◌, map, take, drop}
use Rattle.versions.specs.Orders.{kept_below}
use Rattle.versions.proofs.order.Order.cut.Given as goal

-- the places before this one are cut
abbrev pub invariant-loop-place : goal.invariant-loop-place
invariant-loop-place l = l.place-items ≡ map (kept_below l.fn.k) (take l.place-index l.initial.place-items) ++ drop l.place-index l.initial.place-items
