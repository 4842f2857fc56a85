-- A list in a lent row: the elements at the row's beginning. What follows them in the row is not part of the list.
use Rattle.std.specs.Prelude.{ℕ, ◌-◌, Bool, cond, List, [], ◌∷◌, ◌++◌, length, take, Ok, Err, Result, nat_le, slice_set}
use Rattle.player.specs.declared.fault.ListFault.{ListFault}
use Rattle.player.specs.declared.fault.ListFault.TheVariants.{Full}
use Rattle.player.specs.declared.list.RowList.{RowList}
use Rattle.player.specs.Capacity.{capacity}

-- the whole row, the elements, and how many there may be
abbrev pub row_of : {T : Type 0} → RowList T → List T
row_of l = l.row.now

abbrev pub content : {T : Type 0} → RowList T → List T
content l = take l.len (row_of l)

abbrev pub room : {T : Type 0} → RowList T → ℕ
room l = capacity (row_of l)

-- there may be no more elements than these, where there may be n
abbrev pub is_full : {T : Type 0} → List T → ℕ → Bool
is_full xs n = nat_le n (length xs)

-- adding to the elements xs, where there may be n
abbrev pub push_answer : {T : Type 0} → List T → ℕ → Result (Unit {0}) ListFault
push_answer xs n = cond (is_full xs n) (Err Full) (Ok tt)

-- the elements after x was added
abbrev pub pushed : {T : Type 0} → List T → ℕ → T → List T
pushed xs n x = cond (is_full xs n) xs (xs ++ x ∷ [])

-- the row after x was added: x stands after the elements, and no other place changes
abbrev pub pushed_row : {T : Type 0} → RowList T → T → List T
pushed_row l x = cond (is_full (content l) (room l)) (row_of l) (slice_set (row_of l) (length (content l)) x)

-- how many elements more there may be
abbrev pub free : {T : Type 0} → RowList T → ℕ
free l = room l - length (content l)
