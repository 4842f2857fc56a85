-- The plain store of versions: what every version store does.
use Rattle.std.specs.Prelude.{ℕ, suc, ◌%◌, ◌<◌, Bool, false, cond, not, ◌&&◌, List, [], ◌∷◌, ◌++◌, map, length, Some, None, Ok, Err, Option, Result, ◌==◌, nat_le, nat_lt, slice_index, slice_set}
use Rattle.std.specs.List.{range_with_len, list_any, before_first, after_first}
use Rattle.memory.specs.Client.{count_below}
use Rattle.versions.specs.declared.refusal.Refusal.{Refusal}
use Rattle.versions.specs.declared.refusal.Refusal.TheVariants.{NoProcessor, TaskActive, NoTask, NoAddress, ClassTaken, NotHead, IsHead, NotHeld}
use Rattle.versions.specs.declared.turn.Turn.{Turn}
use Rattle.versions.specs.declared.turn.Turn.TheVariants.{Start, Load, Store, Squash, Commit, Replace}
use Rattle.versions.specs.Refusals.{refusal_number}
use Rattle.versions.specs.Conditions.{first_of, answer_unless}
use Rattle.versions.specs.Cuts.{up_to, changed, but_last, any_below}
use Rattle.versions.specs.declared.version.Version.{Version}
use Rattle.versions.specs.Versions.{no_version, is_own, is_held, with_load, with_store, laid_over, seen_by, squashed_by}

-- a task: its processor, and its version at each address
pub record Task : Type 0 where
  pub on : ℕ
  pub at : ℕ → Version

-- the memory's words, and the active tasks, oldest first; the first is the head
pub record Plain : Type 0 where
  pub memory : List ℕ
  pub order : List Task

-- at opening no task is active
abbrev pub opened : List ℕ → Plain
opened ws = record { memory = ws; order = [] }

-- the words that the store counts as its memory's, and the number of active tasks
abbrev pub memory_words : Plain → List ℕ
memory_words s = s.memory

abbrev pub active_tasks : Plain → ℕ
active_tasks s = length s.order

-- a task that holds nothing
abbrev pub fresh : ℕ → Task
fresh p = record { on = p; at = λ a. no_version }

abbrev pub is_on : ℕ → Task → Bool
is_on p t = t.on == p

-- the task with its version at a changed by f
abbrev pub changed_at : ℕ → (Version → Version) → Task → Task
changed_at a f t = record { on = t.on; at = λ b. cond (a == b) (f (t.at b)) (t.at b) }

-- the versions of address a in task order
abbrev pub column : ℕ → List Task → List Version
column a ts = map (λ t. t.at a) ts

-- p's task, if it is active
abbrev pub task_on : ℕ → List Task → Task
task_on p [] = fresh p
task_on p (t ∷ ts) = cond (is_on p t) t (task_on p ts)

-- p has the head
abbrev pub is_head : ℕ → List Task → Bool
is_head p [] = false
is_head p (t ∷ ts) = is_on p t

-- addresses are of one class if they leave the same remainder by 16; the task holds an address of a's class, other
-- than a, below n
abbrev pub holds_class : Task → ℕ → ℕ → Bool
holds_class t a n = any_below (λ b. is_held (t.at b) && (not (b == a) && b % 16 == a % 16)) n

-- the words with a task's own words laid over them, address by address
unfoldable pub laid_over_all : (ℕ → Version) → List ℕ → List ℕ
laid_over_all at ws = map (λ a. laid_over (at a) (slice_index ws a)) (range_with_len 0 (length ws))

-- the words with an own word of address a written to them, if there is one
abbrev pub written_to : Option ℕ → ℕ → List ℕ → List ℕ
written_to None a ws = ws
written_to (Some w) a ws = slice_set ws a w

-- the conditions under which each turn is refused, in the order in which they are checked
abbrev pub conditions : Plain → Turn → List (Bool × Refusal)
conditions s (Start p) = (nat_le 4 p, NoProcessor) ∷ (list_any (is_on p) s.order, TaskActive) ∷ []
conditions s (Load p a) =
    (nat_le 4 p, NoProcessor) ∷ (not (list_any (is_on p) s.order), NoTask) ∷ (nat_le (length s.memory) a, NoAddress)
    ∷ (holds_class (task_on p s.order) a (length s.memory), ClassTaken) ∷ []
conditions s (Store p a w) =
    (nat_le 4 p, NoProcessor) ∷ (not (list_any (is_on p) s.order), NoTask) ∷ (nat_le (length s.memory) a, NoAddress)
    ∷ (holds_class (task_on p s.order) a (length s.memory), ClassTaken) ∷ []
conditions s (Squash p) =
    (nat_le 4 p, NoProcessor) ∷ (not (list_any (is_on p) s.order), NoTask) ∷ (is_head p s.order, IsHead) ∷ []
conditions s (Commit p) =
    (nat_le 4 p, NoProcessor) ∷ (not (list_any (is_on p) s.order), NoTask) ∷ (not (is_head p s.order), NotHead) ∷ []
conditions s (Replace p a) =
    (nat_le 4 p, NoProcessor) ∷ (not (list_any (is_on p) s.order), NoTask) ∷ (nat_le (length s.memory) a, NoAddress)
    ∷ (not (is_head p s.order), NotHead) ∷ (not (is_held ((task_on p s.order).at a)), NotHeld) ∷ []

-- the numbers of a list of conditions rise, from above n
abbrev pub Rising : ℕ → List (Bool × Refusal) → Type 0
Rising n [] = Unit {0}
Rising n (c ∷ cs) = (n < refusal_number c.1) × Rising (refusal_number c.1) cs

abbrev pub refusal_of : Plain → Turn → Option Refusal
refusal_of s t = first_of (conditions s t)

-- what a turn gives that is not refused
abbrev pub given : Plain → Turn → ℕ
given s (Start p) = length s.order
given s (Load p a) = seen_by (column a (up_to (is_on p) s.order)) (slice_index s.memory a)
given s (Store p a w) = squashed_by (column a (after_first (is_on p) s.order))
given s (Squash p) = suc (length (after_first (is_on p) s.order))
given s (Commit p) = count_below (λ a. is_own ((task_on p s.order).at a)) (length s.memory)
given s (Replace p a) = cond (is_own ((task_on p s.order).at a)) 1 0

-- the store after it
abbrev pub moved : Plain → Turn → Plain
moved s (Start p) = record { memory = s.memory; order = s.order ++ fresh p ∷ [] }
moved s (Load p a) = record { memory = s.memory; order = changed (is_on p) (changed_at a with_load) s.order }
moved s (Store p a w) =
    record {
      memory = s.memory;
      order = changed (is_on p) (changed_at a (with_store w)) (but_last (squashed_by (column a (after_first (is_on p) s.order))) s.order);
    }
moved s (Squash p) = record { memory = s.memory; order = before_first (is_on p) s.order }
moved s (Commit p) =
    record { memory = laid_over_all (task_on p s.order).at s.memory; order = before_first (is_on p) s.order ++ after_first (is_on p) s.order }
moved s (Replace p a) =
    record {
      memory = written_to ((task_on p s.order).at a).own a s.memory;
      order = changed (is_on p) (changed_at a (λ v. no_version)) s.order;
    }

-- the answer to a turn, and the store after it: a refused turn changes nothing
abbrev pub unless_refused : Option Refusal → Plain → Plain → Plain
unless_refused None s later = later
unless_refused (Some r) s later = s

unfoldable pub answer_of : Plain → Turn → Result ℕ Refusal
answer_of s t = answer_unless (refusal_of s t) (given s t)

unfoldable pub state_after : Plain → Turn → Plain
state_after s t = unless_refused (refusal_of s t) s (moved s t)

-- the state after some turns, one after another, and the answers to them
abbrev pub state_after_all : Plain → List Turn → Plain
state_after_all s [] = s
state_after_all s (t ∷ ts) = state_after_all (state_after s t) ts

abbrev pub answers_of : Plain → List Turn → List (Result ℕ Refusal)
answers_of s [] = []
answers_of s (t ∷ ts) = answer_of s t ∷ answers_of (state_after s t) ts

-- the word that the store counts as its memory's at a
abbrev pub word_of : Plain → ℕ → Result ℕ Refusal
word_of s a = cond (nat_lt a (length s.memory)) (Ok (slice_index s.memory a)) (Err NoAddress)
