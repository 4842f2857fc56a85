-- A field of a line: the number that its bytes write in plain decimal.
use Rattle.std.specs.Prelude.{ℕ, ◌^◌, Bool, false, cond, not, ◌&&◌, List, [], ◌∷◌, Ok, Err, Result, ◌==◌, nat_lt}
use Rattle.std.specs.Str.Parse.{digits_value}
use Rattle.std.specs.Str.{all_ascii_digits}
use Rattle.player.specs.declared.fault.TextWhy.{TextWhy}
use Rattle.player.specs.declared.fault.TextWhy.TheVariants.{Field, TooLarge}

-- digits only, at least one, and not beginning with 0 unless it is 0 alone
abbrev pub plain_decimal : List ℕ → Bool
plain_decimal [] = false
plain_decimal (d ∷ []) = all_ascii_digits (d ∷ [])
plain_decimal (d ∷ e ∷ ds) = not (d == 48) && all_ascii_digits (d ∷ e ∷ ds)

-- a number of 32 bits
abbrev pub small : ℕ → Result ℕ TextWhy
small n = cond (nat_lt n (2 ^ 32)) (Ok n) (Err TooLarge)

-- the number that a part of a line writes, or why it writes none
abbrev pub field_of : List ℕ → Result ℕ TextWhy
field_of part = cond (plain_decimal part) (small (digits_value 10 part)) (Err Field)
