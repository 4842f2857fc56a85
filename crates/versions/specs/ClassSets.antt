-- A set of classes of addresses, a bit for each. Contracts cite these functions, since the field `bits` is private.
use Rattle.std.specs.Prelude.{◌≡◌, ℕ, ◌<◌, Bool, true, false, ◌==◌}
use Rattle.std.specs.Int.{bit_at}
use Rattle.versions.specs.declared.class_set.ClassSet.{ClassSet}

-- the bits as one number
abbrev pub bits_of : ClassSet → ℕ
bits_of s = s.bits

-- whether class c is in the set
abbrev pub has : ClassSet → ℕ → Bool
has s c = bit_at (bits_of s) c == 1

-- the set without any class: what a list of sets has past its end
abbrev pub no_class : ClassSet
no_class = record { bits = 0 }

-- c is the lowest class in the set
pub record Lowest (s : ClassSet) (c : ℕ) : Type 0 where
  pub within : c < 16
  pub inside : has s c ≡ true
  pub below : (d : ℕ) → d < c → has s d ≡ false
