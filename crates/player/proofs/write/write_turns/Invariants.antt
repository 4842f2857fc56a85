use Rattle.std.proofs.Common.{◌≡◌, take, string_bytes}
use Rattle.std.specs.List.{AllByRecursion}
use Rattle.player.specs.Writing.{text_of, Small}
use Rattle.player.proofs.write.write_turns.Given as goal

-- the turns before are written
abbrev pub invariant-loop-turn : goal.invariant-loop-turn
invariant-loop-turn l = (string_bytes l.text ≡ text_of (take l.turn-index l.turns)) × AllByRecursion Small (take l.turn-index l.turns)
