-- The order of the active tasks as a list of processors, and the place of one in it.
use Rattle.std.specs.Prelude.{◌≡◌, ℕ, ◌-◌, ◌<◌, ◌≤◌, cond, ◌||◌, List, [], ◌∷◌, length, Some, None, Option, ◌==◌, nat_lt, get_or}
use Rattle.std.specs.List.{position}

-- the place of p, from 0
abbrev pub place_in : List ℕ → ℕ → Option ℕ
place_in ps p = position (λ q. q == p) ps

-- no processor twice, and none but 0 to 3
abbrev pub Apart : List ℕ → Type 0
Apart [] = Unit {0}
Apart (q ∷ qs) = (q < 4) × (place_in qs q ≡ None) × Apart qs

-- the place of each processor of the list, or 4 where it is not in it
pub record Placing (ps places : List ℕ) : Type 0 where
  pub four : length places ≡ 4
  pub at : (q : ℕ) → q < 4 → cond (nat_lt (get_or places q 4) 4) (Some (get_or places q 4)) None ≡ place_in ps q
  pub most : (q : ℕ) → q < 4 → get_or places q 4 ≤ 4

-- a place after a cut to the k oldest, and after the oldest has gone
abbrev pub kept_below : ℕ → ℕ → ℕ
kept_below k place = cond (nat_lt place k) place 4

abbrev pub moved_down : ℕ → ℕ
moved_down place = cond (place == 0 || place == 4) 4 (place - 1)
