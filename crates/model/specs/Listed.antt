-- A listing in the caller's buffer.
use Rattle.std.specs.Prelude.{◌≡◌, ℕ, cond, List, ◌++◌, length, drop, nat_le}

-- n is told of a text, and the buffer is now so: the text's length, with the text at the buffer's beginning where it fits
pub record ListedIn (text old : List ℕ) (n : ℕ) (new : List ℕ) : Type 0 where
  pub length_told : n ≡ length text
  pub bytes : new ≡ cond (nat_le (length text) (length old)) (text ++ drop (length text) old) old
