-- How long the decimal text of a number is.
use Rattle.std.proofs.Common.{ℕ, ◌<◌, ◌≤◌, length, arith}
use Rattle.std.specs.Fmt.{decimal}
use Rattle.std.proofs.lemmas.Fmt.{length-decimal-le}

pub four_digits : (n : ℕ) → n < 10000 → length (decimal n) ≤ 4
four_digits n small = length-decimal-le 4 n (omega arith) small (omega arith)
