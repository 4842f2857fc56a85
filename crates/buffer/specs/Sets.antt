-- The rows of the central buffer, set by set: a row has an address and a version for each processor; address a lives in
-- set a mod 16.
use Rattle.std.specs.Prelude.{◌≡◌, ◌≢◌, ℕ, ◌%◌, ◌<◌, Bool, true, false, not, ◌&&◌, ◌⊎◌, List, [], length, get_or, replicate, Option, Some, None, ◌==◌, slice_index_or, slice_set}
use Rattle.std.specs.List.{find, list_any}
use Rattle.std.specs.Option.{option_map, unwrap_or}
use Rattle.buffer.specs.declared.rows.Row.{Row}
use Rattle.versions.specs.declared.class_set.ClassSet.{ClassSet}
use Rattle.versions.specs.declared.version.Version.{Version}
use Rattle.versions.specs.ClassSets.{has, no_class}
use Rattle.versions.specs.Tables.{Table}
use Rattle.versions.specs.Versions.{no_version, is_held}

-- past the rows of a set
abbrev pub no_row : Row
no_row = record { address = 0; versions = [] }

-- a row without any version
abbrev pub free_row : Row
free_row = record { address = 0; versions = replicate 4 no_version }

-- p's version in a row, and the row with v as p's version of a
abbrev pub in_row : Row → ℕ → Version
in_row r p = slice_index_or r.versions p no_version

abbrev pub row_with : Row → ℕ → ℕ → Version → Row
row_with r p a v = record { address = a; versions = slice_set r.versions p v }

-- nobody holds the row
abbrev pub is_free : Row → Bool
is_free r = not (list_any is_held r.versions)

-- p's version of a among the rows of a set: that of the first row of the address in which p holds it
abbrev pub in_rows : List Row → ℕ → ℕ → Version
in_rows rs p a = unwrap_or (option_map (λ r. in_row r p) (find (λ r. r.address == a && is_held (in_row r p)) rs)) no_version

-- the versions that the sets keep, by processor and address
abbrev pub in_sets : List (List Row) → Table
in_sets sets p a = in_rows (slice_index_or sets (a % 16) []) p a

-- the place of the last row of address a, of those before place n
abbrev pub LastOf : List Row → ℕ → ℕ → Option ℕ → Type 0
LastOf rs a n None = (i : ℕ) → i < n → (get_or rs i no_row).address ≢ a
LastOf rs a n (Some j) = (j < n) × ((get_or rs j no_row).address ≡ a) × ((i : ℕ) → j < i → i < n → (get_or rs i no_row).address ≢ a)

-- the address of a row that p holds, of those before place n
abbrev pub HeldBefore : List Row → ℕ → ℕ → Option ℕ → Type 0
HeldBefore rs p n None = (i : ℕ) → i < n → is_held (in_row (slice_index_or rs i no_row) p) ≡ false
HeldBefore rs p n (Some b) = (i : ℕ) × (i < n) × (is_held (in_row (slice_index_or rs i no_row) p) ≡ true) × ((get_or rs i no_row).address ≡ b)

-- the rows without p's versions
abbrev pub without_row : ℕ → Row → Row
without_row p r = record { address = r.address; versions = slice_set r.versions p no_version }

-- the rows of class c: there are four, each for four processors; a processor holds one at most, of an address of the class, and
-- no later row is of the address of one that is held
pub record GoodSet (c : ℕ) (rs : List Row) : Type 0 where
  pub count : length rs ≡ 4
  pub wide : (j : ℕ) → j < 4 → length (get_or rs j no_row).versions ≡ 4
  pub one : (p i j : ℕ) → i < 4 → j < 4 → is_held (in_row (slice_index_or rs i no_row) p) ≡ true → is_held (in_row (slice_index_or rs j no_row) p) ≡ true → i ≡ j
  pub class : (p j : ℕ) → j < 4 → is_held (in_row (slice_index_or rs j no_row) p) ≡ true → (get_or rs j no_row).address % 16 ≡ c
  pub last : (p j i : ℕ) → j < i → i < 4 → is_held (in_row (slice_index_or rs j no_row) p) ≡ true → (get_or rs i no_row).address ≢ (get_or rs j no_row).address

pub record GoodSets (sets : List (List Row)) : Type 0 where
  pub count : length sets ≡ 16
  pub each : (c : ℕ) → c < 16 → GoodSet c (slice_index_or sets c [])

-- a set of classes for each processor: what a processor holds is of a class in its set
pub record Covered (classes : List ClassSet) (sets : List (List Row)) : Type 0 where
  pub count : length classes ≡ 4
  pub all : (p b : ℕ) → p < 4 → is_held (in_sets sets p b) ≡ true → has (slice_index_or classes p no_class) (b % 16) ≡ true

-- the row at place j can take p's version of a: it is the last of that address, or it is free and none is of that address; and p
-- holds no other row of the set
pub record RowFor (rs : List Row) (p a j : ℕ) : Type 0 where
  pub within : j < 4
  pub fits : ((get_or rs j no_row).address ≡ a) ⊎ ((is_free (slice_index_or rs j no_row) ≡ true) × ((i : ℕ) → i < 4 → (get_or rs i no_row).address ≢ a))
  pub last : (i : ℕ) → j < i → i < 4 → (get_or rs i no_row).address ≢ a
  pub only : (i : ℕ) → i < 4 → is_held (in_row (slice_index_or rs i no_row) p) ≡ true → i ≡ j

-- p's version of a is put into a row of the set that can take it
pub record PutInto (rs : List Row) (p a : ℕ) (v : Version) (later : List Row) : Type 0 where
  pub place : ℕ
  pub takes : RowFor rs p a place
  pub bound : p < 4
  pub rows : later ≡ slice_set rs place (row_with (slice_index_or rs place no_row) p a v)
