-- The versions that a store keeps, as a table by processor and address, and the plain state that a table stands for
-- together with an order of processors.
use Rattle.std.specs.Prelude.{◌≡◌, ℕ, zero, suc, ◌+◌, ◌%◌, ◌<◌, Bool, true, false, cond, not, ◌&&◌, leb, List, [], ◌∷◌, map, length, is_some, Some, None, Ok, Err, Option, Result, ◌==◌, nat_eq, nat_le, nat_lt}
use Rattle.memory.specs.Client.{count_below}
use Rattle.std.specs.Option.{ok_or, option_or}
use Rattle.versions.specs.declared.refusal.Refusal.{Refusal}
use Rattle.versions.specs.declared.refusal.Refusal.TheVariants.{NoProcessor, TaskActive, NoTask, NoAddress, ClassTaken, NotHead, IsHead, NotHeld}
use Rattle.versions.specs.declared.version.Version.{Version}
use Rattle.versions.specs.Orders.{place_in}
use Rattle.versions.specs.Versions.{no_version, is_own, is_held}
use Rattle.versions.specs.Plain.{Task, Plain, holds_class, laid_over_all}

-- the version of each processor's task at each address
abbrev pub Table : Type 0
Table = ℕ → ℕ → Version

abbrev pub empty_table : Table
empty_table q b = no_version

abbrev pub task_by : Table → ℕ → Task
task_by table p = record { on = p; at = table p }

-- the plain state of words, processors in task order and a table
abbrev pub plain_of : List ℕ → List ℕ → Table → Plain
plain_of ws ps table = record { memory = ws; order = map (task_by table) ps }

-- the table with v as p's version at a
abbrev pub with_version : Table → ℕ → ℕ → Version → Table
with_version table p a v q b = cond (q == p && a == b) v (table q b)

-- the table without p's versions; without those of some processors
abbrev pub without : Table → ℕ → Table
without table p q b = cond (q == p) no_version (table q b)

abbrev pub without_all : Table → List ℕ → Table
without_all table [] = table
without_all table (p ∷ ps) = without_all (without table p) ps

-- a table fits an order of processors over n words: who has no task holds nothing, what is held is an address of the
-- memory, and of one class a task holds one address at most
pub record Fitting (n : ℕ) (ps : List ℕ) (table : Table) : Type 0 where
  pub idle : (q : ℕ) → place_in ps q ≡ None → (b : ℕ) → table q b ≡ no_version
  pub inside : (q b : ℕ) → is_held (table q b) ≡ true → b < n
  pub one : (q b c : ℕ) → is_held (table q b) ≡ true → is_held (table q c) ≡ true → b % 16 ≡ c % 16 → b ≡ c

-- the address of class c that a task holds, if it holds one
abbrev pub HeldIn : (ℕ → Version) → ℕ → Option ℕ → Type 0
HeldIn at c None = (b : ℕ) → b % 16 ≡ c → is_held (at b) ≡ false
HeldIn at c (Some b) = (b % 16 ≡ c) × (is_held (at b) ≡ true)

-- the place of p's active task, or the refusal of a turn of p; and further conditions on it
abbrev pub active_place : List ℕ → ℕ → Result ℕ Refusal
active_place ps p = cond (nat_le 4 p) (Err NoProcessor) (ok_or (place_in ps p) NoTask)

abbrev pub unless : Result ℕ Refusal → (ℕ → Bool) → Refusal → Result ℕ Refusal
unless (Ok k) test e = cond (test k) (Err e) (Ok k)
unless (Err x) test e = Err x

-- the place that a new task on p takes, the number of active tasks
abbrev pub start_place : List ℕ → ℕ → Result ℕ Refusal
start_place ps p = cond (nat_le 4 p) (Err NoProcessor) (cond (is_some (place_in ps p)) (Err TaskActive) (Ok (length ps)))

-- the place of p's task for a load or store of a, a squash, a commit and a replacement of a, each by its conditions
abbrev pub access_place : ℕ → List ℕ → Table → ℕ → ℕ → Result ℕ Refusal
access_place n ps table p a =
    unless (unless (active_place ps p) (λ k. leb n a) NoAddress) (λ k. holds_class (task_by table p) a n) ClassTaken

abbrev pub squash_place : List ℕ → ℕ → Result ℕ Refusal
squash_place ps p = unless (active_place ps p) (λ k. nat_eq k 0) IsHead

abbrev pub commit_place : List ℕ → ℕ → Result ℕ Refusal
commit_place ps p = unless (active_place ps p) (λ k. not (k == 0)) NotHead

abbrev pub replace_place : ℕ → List ℕ → Table → ℕ → ℕ → Result ℕ Refusal
replace_place n ps table p a =
    unless (unless (unless (active_place ps p) (λ k. leb n a) NoAddress) (λ k. not (k == 0)) NotHead) (λ k. not (is_held (table p a))) NotHeld

-- a place, with the processor whose task has it
abbrev pub with_processor : ℕ → Result ℕ Refusal → Result (ℕ × ℕ) Refusal
with_processor p (Ok k) = Ok (p, k)
with_processor p (Err e) = Err e

-- a task's versions of the classes below c
abbrev pub up_to_class : (ℕ → Version) → ℕ → ℕ → Version
up_to_class at c a = cond (nat_lt (a % 16) c) (at a) no_version

-- the address below n of class c that passes a test, if there is one: the highest
abbrev pub of_class : (ℕ → Bool) → ℕ → ℕ → Option ℕ
of_class f c zero = None
of_class f c (suc n) = cond (f n && n % 16 == c) (Some n) (of_class f c n)

-- the last of some that passes a test
abbrev pub last_that : {A : Type 0} → (A → Bool) → List A → Option A
last_that f [] = None
last_that f (x ∷ xs) = option_or (last_that f xs) (cond (f x) (Some x) None)

-- of the own words below n, the address of the one with the highest class below c
abbrev pub last_own : (ℕ → Version) → ℕ → ℕ → Option ℕ
last_own at n zero = None
last_own at n (suc c) = option_or (of_class (λ a. is_own (at a)) c n) (last_own at n c)

-- class c is written over what the classes below c made of the words ws: vs are the words then, and n own words were written
pub record ClassWritten (at : ℕ → Version) (c : ℕ) (ws vs : List ℕ) (n : ℕ) : Type 0 where
  pub words : vs ≡ laid_over_all (up_to_class at (c + 1)) ws
  pub count : count_below (λ a. is_own (up_to_class at (c + 1) a)) (length ws) ≡ count_below (λ a. is_own (up_to_class at c a)) (length ws) + n
