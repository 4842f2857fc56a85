use Rattle.std.proofs.Common.{◌≡◌, ◌++◌, map, take, drop}
use Rattle.versions.specs.Orders.{moved_down}
use Rattle.versions.proofs.order.Order.remove_first.Given as goal

-- the places before this one are moved down
abbrev pub invariant-loop-place : goal.invariant-loop-place
invariant-loop-place l = l.place-items ≡ map moved_down (take l.place-index l.initial.place-items) ++ drop l.place-index l.initial.place-items
