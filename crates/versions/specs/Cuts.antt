-- A list cut at its first element that passes a test, and tests of the numbers below n.
use Rattle.std.specs.Prelude.{ℕ, zero, suc, ◌-◌, Bool, false, cond, ◌||◌, List, [], ◌∷◌, length, take}

-- the elements up to the first that passes, with it
abbrev pub up_to : {A : Type 0} → (A → Bool) → List A → List A
up_to f [] = []
up_to f (x ∷ xs) = cond (f x) (x ∷ []) (x ∷ up_to f xs)

-- the list with the first that passes changed by g
abbrev pub changed : {A : Type 0} → (A → Bool) → (A → A) → List A → List A
changed f g [] = []
changed f g (x ∷ xs) = cond (f x) (g x ∷ xs) (x ∷ changed f g xs)

-- all but the last n
abbrev pub but_last : {A : Type 0} → ℕ → List A → List A
but_last n xs = take (length xs - n) xs

-- some number below n passes
abbrev pub any_below : (ℕ → Bool) → ℕ → Bool
any_below f zero = false
any_below f (suc n) = f n || any_below f n
