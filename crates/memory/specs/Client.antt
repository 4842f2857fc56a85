-- What the code over any memories gives, as functions of their words.
use Rattle.std.specs.Prelude.{ℕ, zero, suc, ◌+◌, min, Bool, cond, not, List, ◌++◌, length, take, drop, ◌==◌, slice_index}

-- how many words two memories share: the addresses that both have
abbrev pub shared : List ℕ → List ℕ → ℕ
shared ws vs = min (length ws) (length vs)

-- the words vs after the first n of ws were copied over them
abbrev pub copied : ℕ → List ℕ → List ℕ → List ℕ
copied n ws vs = take n ws ++ drop n vs

-- of the numbers below n, how many pass a test
abbrev pub count_below : (ℕ → Bool) → ℕ → ℕ
count_below f zero = 0
count_below f (suc n) = cond (f n) 1 0 + count_below f n

-- at how many of the first n addresses two memories differ
abbrev pub differences : ℕ → List ℕ → List ℕ → ℕ
differences n ws vs = count_below (λ a. not (slice_index ws a == slice_index vs a)) n
