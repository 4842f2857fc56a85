-- The book of what survives, fed with turns and their answers alone, and the sequential run of what it holds.
use Rattle.std.specs.Prelude.{ℕ, Bool, true, false, cond, not, ◌&&◌, ◌||◌, List, [], ◌∷◌, ◌++◌, Ok, Err, Result, ◌==◌}
use Rattle.std.specs.List.{before_first}
use Rattle.versions.specs.declared.refusal.Refusal.{Refusal}
use Rattle.versions.specs.declared.turn.Turn.{Turn}
use Rattle.versions.specs.declared.turn.Turn.TheVariants.{Start, Load, Store, Squash, Commit, Replace}
use Rattle.versions.specs.Cuts.{changed, but_last}

-- what a task did: a load of an address, with the word that it gave; a store to an address, with its word; or a
-- replacement of an address
pub data Access : Type 0 where
  loaded : ℕ → ℕ → Access
  stored : ℕ → ℕ → Access
  replaced : ℕ → Access

-- a task of the book: its processor, whether it is committed, and its accesses in the order made
pub record Entry : Type 0 where
  pub by : ℕ
  pub committed : Bool
  pub accesses : List Access

-- oldest first
abbrev pub Book : Type 0
Book = List Entry

-- p's task is the one of p that is not committed
abbrev pub is_task_of : ℕ → Entry → Bool
is_task_of p e = e.by == p && not e.committed

abbrev pub with_access : Access → Entry → Entry
with_access x e = record { by = e.by; committed = e.committed; accesses = e.accesses ++ x ∷ [] }

abbrev pub as_committed : Entry → Entry
as_committed e = record { by = e.by; committed = true; accesses = e.accesses }

-- the book after an accepted turn that gave n; a store first takes out as many of the last tasks as its number says
abbrev pub accepted : Book → Turn → ℕ → Book
accepted b (Start p) n = b ++ record { by = p; committed = false; accesses = [] } ∷ []
accepted b (Load p a) n = changed (is_task_of p) (with_access (loaded a n)) b
accepted b (Store p a w) n = changed (is_task_of p) (with_access (stored a w)) (but_last n b)
accepted b (Squash p) n = before_first (is_task_of p) b
accepted b (Commit p) n = changed (is_task_of p) as_committed b
accepted b (Replace p a) n = changed (is_task_of p) (with_access (replaced a)) b

-- the book after a turn: a refused one alters nothing
abbrev pub fed_one : Book → Turn → Result ℕ Refusal → Book
fed_one b t (Ok n) = accepted b t n
fed_one b t (Err r) = b

-- the accesses of some tasks, task after task
abbrev pub all_accesses : List Entry → List Access
all_accesses [] = []
all_accesses (e ∷ es) = e.accesses ++ all_accesses es

-- the committed tasks; the others; the accesses of the first of these, the head
abbrev pub committed_of : Book → List Entry
committed_of [] = []
committed_of (e ∷ es) = cond e.committed (e ∷ committed_of es) (committed_of es)

abbrev pub active_of : Book → List Entry
active_of [] = []
active_of (e ∷ es) = cond e.committed (active_of es) (e ∷ active_of es)

abbrev pub first_accesses : List Entry → List Access
first_accesses [] = []
first_accesses (e ∷ es) = e.accesses

-- what an access leaves at address a, where the word w stood: a store to a puts its word there
abbrev pub leaves : Access → ℕ → ℕ → ℕ
leaves (loaded b v) a w = w
leaves (stored b v) a w = cond (b == a) v w
leaves (replaced b) a w = w

-- the word at address a after a run of accesses in their order, where the word w stood before it
abbrev pub after_run : List Access → ℕ → ℕ → ℕ
after_run [] a w = w
after_run (x ∷ xs) a w = after_run xs a (leaves x a w)

-- some store to a is among these; some replacement of a
abbrev pub stores_to : ℕ → List Access → Bool
stores_to a [] = false
stores_to a (loaded b v ∷ xs) = stores_to a xs
stores_to a (stored b v ∷ xs) = b == a || stores_to a xs
stores_to a (replaced b ∷ xs) = stores_to a xs

abbrev pub replaces : ℕ → List Access → Bool
replaces a [] = false
replaces a (loaded b v ∷ xs) = replaces a xs
replaces a (stored b v ∷ xs) = replaces a xs
replaces a (replaced b ∷ xs) = b == a || replaces a xs

-- the replaced stores, in the order made: those with a replacement of their address after them
abbrev pub replaced_stores : List Access → List Access
replaced_stores [] = []
replaced_stores (loaded b v ∷ xs) = replaced_stores xs
replaced_stores (stored b v ∷ xs) = cond (replaces b xs) (stored b v ∷ replaced_stores xs) (replaced_stores xs)
replaced_stores (replaced b ∷ xs) = replaced_stores xs
