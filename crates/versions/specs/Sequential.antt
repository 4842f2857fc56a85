-- Sequential reading: what survives reads as if the tasks had run one after another.
use Rattle.std.specs.Prelude.{◌≡◌, ℕ, suc, ◌<◌, ◌≤◌, false, ◌⊎◌, List, [], ◌∷◌, ◌++◌, map, length, take, Ok, Result, slice_index}
use Rattle.std.specs.List.{after_first}
use Rattle.versions.specs.declared.refusal.Refusal.{Refusal}
use Rattle.versions.specs.declared.turn.Turn.{Turn}
use Rattle.versions.specs.declared.turn.Turn.TheVariants.{Store}
use Rattle.versions.specs.Versions.{seen_by}
use Rattle.versions.specs.Plain.{Plain, opened, memory_words, column, answer_of, state_after}
use Rattle.versions.specs.Book.{Access, loaded, Entry, Book, is_task_of, fed_one, all_accesses, committed_of, active_of, first_accesses, after_run, stores_to, replaced_stores}

-- a turn with its answer
pub record Event : Type 0 where
  pub turn : Turn
  pub answer : Result ℕ Refusal

-- a book after some events; the book of some events, from an empty one
abbrev pub fed_all : Book → List Event → Book
fed_all b [] = b
fed_all b (e ∷ es) = fed_all (fed_one b e.turn e.answer) es

abbrev pub book_of : List Event → Book
book_of es = fed_all [] es

-- a load of a among a task's accesses would read a store to a that stands before `between`: none stands between
abbrev pub WouldRead : ℕ → List Access → List Access → Type 0
WouldRead a between xs =
    (ys : List Access) × (v : ℕ) × (zs : List Access) × (xs ≡ ys ++ loaded a v ∷ zs) × (stores_to a (between ++ ys) ≡ false)

-- of the tasks later than a storing one, the last n are the oldest with a load that would read its store to a, and
-- all after it; n is 0 where there is none
pub record ExactSquash (a : ℕ) (later : List Entry) (n : ℕ) : Type 0 where
  pub enough : (es : List Entry) (e : Entry) (fs : List Entry) → later ≡ es ++ e ∷ fs → WouldRead a (all_accesses es) e.accesses → length (e ∷ fs) ≤ n
  pub needed : (n ≡ 0) ⊎ ((es : List Entry) × (e : Entry) × (fs : List Entry) × (later ≡ es ++ e ∷ fs) × WouldRead a (all_accesses es) e.accesses × (length (e ∷ fs) ≡ n))

-- of the memory's words at opening, the events since, and its words as counted now
pub record Sequential (ws : List ℕ) (es : List Event) (vs : List ℕ) : Type 0 where
  -- every surviving load has got the word that it gets in the run
  pub reads : (xs : List Access) (a v : ℕ) (ys : List Access) → all_accesses (book_of es) ≡ xs ++ loaded a v ∷ ys → v ≡ after_run xs a (slice_index ws a)
  -- every accepted store squashed exactly the tasks that had to go
  pub squashes : (before : List Event) (p a w n : ℕ) (rest : List Event) → es ≡ before ++ record { turn = Store p a w; answer = Ok n } ∷ rest
      → ExactSquash a (after_first (is_task_of p) (book_of before)) n
  -- the memory's words are those that the committed tasks' run leaves, and then the head's replaced stores
  pub size : length vs ≡ length ws
  pub words : (a : ℕ) → a < length ws
      → slice_index vs a ≡ after_run (all_accesses (committed_of (book_of es)) ++ replaced_stores (first_accesses (active_of (book_of es)))) a (slice_index ws a)

-- the events lead from the state s to the state t
abbrev pub Leads : Plain → List Event → Plain → Type 0
Leads s [] t = s ≡ t
Leads s (e ∷ es) t = (e.answer ≡ answer_of s e.turn) × Leads (state_after s e.turn) es t

-- the book mirrors the plain store: its active tasks are on the store's processors, in the same order, and each task
-- of the store sees at each address the word that the run leaves there after the book's task
pub record Mirrors (ws : List ℕ) (b : Book) (s : Plain) : Type 0 where
  pub tasks : map (λ t. t.on) s.order ≡ map (λ e. e.by) (active_of b)
  pub sees : (k : ℕ) → k < length s.order → (a : ℕ) → a < length ws
      → seen_by (column a (take (suc k) s.order)) (slice_index s.memory a)
      ≡ after_run (all_accesses (committed_of b) ++ all_accesses (take (suc k) (active_of b))) a (slice_index ws a)

-- the events `new` lead from s to t; and after whatever led from an opening to s, the reading is sequential before
-- the first of them and after each, and the book mirrors the state
pub record ReadsOn (s : Plain) (new : List Event) (t : Plain) : Type 0 where
  pub leads : Leads s new t
  pub law : (ws : List ℕ) (es : List Event) → Leads (opened ws) es s → (k : ℕ) → k ≤ length new → (u : Plain) → Leads s (take k new) u
      → Sequential ws (es ++ take k new) (memory_words u) × Mirrors ws (book_of (es ++ take k new)) u

-- one turn with its answer; turns and answers, place by place, as far as both go
abbrev pub event_of : Turn → Result ℕ Refusal → Event
event_of t r = record { turn = t; answer = r }

abbrev pub paired : List Turn → List (Result ℕ Refusal) → List Event
paired [] rs = []
paired (t ∷ ts) [] = []
paired (t ∷ ts) (r ∷ rs) = event_of t r ∷ paired ts rs
