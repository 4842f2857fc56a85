use Rattle.std.proofs.Common.{◌≡◌, ℕ, ◌<◌, ◌≤◌, length, get_or, take}
use Rattle.versions.proofs.processor_list.ProcessorList.truncate.Given as goal

-- the first k are as they were, and those of the others that were met are 0
abbrev pub invariant-loop-i : goal.invariant-loop-i
invariant-loop-i l = record {
  four : length l.slot-items ≡ 4;
  first : take l.k l.slot-items ≡ take l.k l.initial.slot-items;
  rest : (j : ℕ) → l.k ≤ j → j < l.i → get_or l.slot-items j 0 ≡ 0;
}
