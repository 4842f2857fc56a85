-- Where a part of a line ends.
use Rattle.std.proofs.Common.{◌≡◌, ℕ, ◌≤◌, Bool, true, false, cond, ◌||◌, eqb, ltb, List, [], ◌∷◌, length, Some, None, Option, unwrap_or, refl, arith}
use Rattle.std.specs.List.{position_or_len}
use Rattle.std.proofs.lemmas.Bool.{ltb-false}
use Rattle.player.specs.Tokens.{part_length}

-- a space or a line end
abbrev ends : ℕ → Bool
ends b = eqb b 32 || eqb b 10

part_length-is : (bs : List ℕ) → (position_or_len ends bs ≡ part_length bs) × (part_length bs ≤ length bs)
part_length-is [] = (refl, omega arith)
part_length-is (b ∷ bs) = go (ends b) refl (part_length-is bs)
  where
    go : (t : Bool) → ends b ≡ t → (position_or_len ends bs ≡ part_length bs) × (part_length bs ≤ length bs)
        → (position_or_len ends (b ∷ bs) ≡ part_length (b ∷ bs)) × (part_length (b ∷ bs) ≤ length (b ∷ bs))
    go true t later = rw t (refl, omega arith)
    go false t later = rw t (omega (arith, later.0), omega (arith, later.1))

-- the first byte that ends a part, or the end of the text, is where the part ends
pub part-position : (bs : List ℕ) (o : Option ℕ) → o ≡ cond (ltb (position_or_len ends bs) (length bs)) (Some (position_or_len ends bs)) None
    → unwrap_or o (length bs) ≡ part_length bs
part-position bs o is = go (ltb (position_or_len ends bs) (length bs)) refl (part_length-is bs)
  where
    go : (t : Bool) → ltb (position_or_len ends bs) (length bs) ≡ t → (position_or_len ends bs ≡ part_length bs) × (part_length bs ≤ length bs)
        → unwrap_or o (length bs) ≡ part_length bs
    go true t part = rw is (rw t part.0)
    go false t part = rw is (rw t (omega (arith, ltb-false _ _ t, part.0, part.1)))
