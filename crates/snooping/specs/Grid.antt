-- The four caches as a table of lines by processor and line number, and what happens to the table.
use Rattle.std.specs.Prelude.{◌≡◌, ℕ, suc, ◌%◌, ◌<◌, true, false, cond, ◌&&◌, List, [], ◌∷◌, length, get_or, drop, is_some, Some, Option, ◌==◌}
use Rattle.std.specs.List.{find}
use Rattle.versions.specs.ClassSets.{has, no_class}
use Rattle.versions.specs.declared.class_set.ClassSet.{ClassSet}
use Rattle.versions.specs.Orders.{place_in}
use Rattle.versions.specs.Tables.{Table}
use Rattle.versions.specs.Versions.{is_held}
use Rattle.snooping.specs.declared.cache.Cache.{Cache}
use Rattle.snooping.specs.declared.line.Line.{Line}
use Rattle.snooping.specs.Lines.{blank, cache_lines, cache_line, version_in, version_at, with_next, unlinked}

-- line c of processor q
abbrev pub LineTable : Type 0
LineTable = ℕ → ℕ → Line

abbrev pub no_cache : Cache
no_cache = record { lines = [] }

abbrev pub line_in : List Cache → LineTable
line_in cs q c = cache_line (get_or cs q no_cache) c

-- four caches of 16 lines
pub record Wide (cs : List Cache) : Type 0 where
  pub caches : length cs ≡ 4
  pub lines : (q : ℕ) → q < 4 → length (cache_lines (get_or cs q no_cache)) ≡ 16

-- four sets of classes: each processor's lines of other classes are blank
pub record Covered (cs : List Cache) (sets : List ClassSet) : Type 0 where
  pub long : length sets ≡ 4
  pub outside : (q c : ℕ) → q < 4 → c < 16 → has (get_or sets q no_class) c ≡ false → line_in cs q c ≡ blank

-- the versions that the lines hold
abbrev pub table_by : LineTable → Table
table_by ls q b = version_at (ls q (b % 16)) b

-- the tag of a line that holds something belongs to the line
abbrev pub Tagged : LineTable → Type 0
Tagged ls = (q c : ℕ) → is_held (version_in (ls q c)) ≡ true → (ls q c).tag % 16 ≡ c

-- the table with another line c of p; with all lines of p changed by f
abbrev pub with_line : LineTable → ℕ → ℕ → Line → LineTable
with_line ls p c x q d = cond (q == p && d == c) x (ls q d)

abbrev pub with_cache : LineTable → ℕ → (Line → Line) → LineTable
with_cache ls p f q d = cond (q == p) (f (ls q d)) (ls q d)

-- the first of some processors that holds a
abbrev pub holder : Table → ℕ → List ℕ → Option ℕ
holder table a qs = find (λ q. is_held (table q a)) qs

-- the lines of a of some processors point each to the next
abbrev pub linked : LineTable → ℕ → ℕ → Option ℕ → LineTable
linked ls p a n = cond (is_held (table_by ls p a)) (with_line ls p (a % 16) (with_next (ls p (a % 16)) n)) ls

abbrev pub relinked : List ℕ → ℕ → LineTable → LineTable
relinked [] a ls = ls
relinked (p ∷ ps) a ls = linked (relinked ps a ls) p a (holder (table_by ls) a ps)

-- they do so already
abbrev pub Linked : List ℕ → ℕ → LineTable → Type 0
Linked ps a ls = (q k : ℕ) → place_in ps q ≡ Some k → is_held (table_by ls q a) ≡ true → (ls q (a % 16)).next ≡ holder (table_by ls) a (drop (suc k) ps)

-- a line that another points to holds something
abbrev pub Pointing : LineTable → Type 0
Pointing ls = (q c r : ℕ) → (ls q c).next ≡ Some r → is_held (version_in (ls r c)) ≡ true

-- the lines of the processors ps alone, without pointers to others
abbrev pub cut_to : List ℕ → LineTable → LineTable
cut_to ps ls q d = cond (is_some (place_in ps q)) (unlinked ps (ls q d)) blank
