use Rattle.std.proofs.Common.{◌≡◌, ◌^◌, ◌<◌, true, drop}
use Rattle.std.specs.Str.Parse.{digits_value, digits_value_after}
use Rattle.std.specs.Str.{all_ascii_digits}
use Rattle.player.proofs.number.plain_value.Given as goal

-- n is the number that the digits before write
abbrev pub invariant-loop-b : goal.invariant-loop-b
invariant-loop-b l =
    (l.n < 2 ^ 32)
    × (digits_value 10 l.part ≡ digits_value_after 10 l.n (drop l.b-index l.part))
    × (all_ascii_digits (drop l.b-index l.part) ≡ true)
