-- What an image and a text give before a store is asked: the turns that are read, those that are played, and the fault.
use Rattle.std.specs.Prelude.{◌≡◌, ℕ, cond, List, [], ◌++◌, length, take, drop, Ok, Err, Result, nat_lt}
use Rattle.versions.specs.declared.refusal.Refusal.{Refusal}
use Rattle.versions.specs.declared.turn.Turn.{Turn}
use Rattle.versions.specs.Plain.{Plain, opened, memory_words, active_tasks, answers_of, state_after_all}
use Rattle.versions.specs.Sequential.{ReadsOn, paired}
use Rattle.player.specs.declared.fault.ListFault.TheVariants.{Full}
use Rattle.player.specs.declared.fault.PlayerFault.{PlayerFault}
use Rattle.player.specs.declared.fault.PlayerFault.TheVariants.{Image, Text, Results}
use Rattle.player.specs.declared.list.RowList.{RowList}
use Rattle.player.specs.declared.play.Input.{Input}
use Rattle.player.specs.declared.play.Lists.{Lists}
use Rattle.player.specs.Faults.{ImageFault, TextFault}
use Rattle.player.specs.Image.{load_answer, loaded_words}
use Rattle.player.specs.Lists.{content, free, room, row_of}
use Rattle.player.specs.Text.{text_read, written}

pub record Script : Type 0 where
  pub read : List Turn
  pub played : List Turn
  pub answer : Result (Unit {0}) PlayerFault

-- turns where there are so many places for answers: the first one without a place is at fault
abbrev pub places_answer : ℕ → List Turn → Result (Unit {0}) PlayerFault
places_answer places ts = cond (nat_lt places (length ts)) (Err (Results Full places)) (Ok tt)

-- turns that were read, with the answer of the reading: after a fault none is played
abbrev pub read_script : ℕ → List Turn → Result (Unit {0}) TextFault → Script
read_script places ts (Ok u) = record { read = ts; played = take places ts; answer = places_answer places ts }
read_script places ts (Err e) = record { read = ts; played = []; answer = Err (Text e) }

-- a text, where there are so many places for turns and for answers
abbrev pub text_script : ℕ → ℕ → List ℕ → Script
text_script free places text = read_script places (text_read free text).turns (text_read free text).answer

-- the script of a text after an image, of which the loading's answer is known: after a fault nothing is read
abbrev pub script_after : Result (Unit {0}) ImageFault → Script → Script
script_after (Ok u) s = s
script_after (Err e) s = record { read = []; played = []; answer = Err (Image e) }

-- a text, with the lists for turns and answers
abbrev pub script_of : Lists → List ℕ → Script
script_of lists text = text_script (free lists.turns) (free lists.answers) text

-- the lists for turns and answers, side by side
abbrev pub lists_of : RowList Turn → RowList (Result ℕ Refusal) → Lists
lists_of turns answers = record { turns = turns; answers = answers }

-- an image over the words ws, and a text
abbrev pub script_over : List ℕ → List ℕ → List ℕ → Lists → Script
script_over ws image text lists = script_after (load_answer (length ws) image) (script_of lists text)

-- the same, with image and text side by side
abbrev pub script_in : List ℕ → Input → Lists → Script
script_in ws input lists = script_over ws input.image.now input.text.now lists

-- what is told in the end: the fault, or the number of active tasks
abbrev pub told : Result (Unit {0}) PlayerFault → ℕ → Result ℕ PlayerFault
told (Ok u) n = Ok n
told (Err e) n = Err e

-- a list has gained the elements xs at its end, and no other place of its row has changed
abbrev pub Gained : {T : Type 0} → RowList T → List T → RowList T → Type 0
Gained l xs l' =
    (content l' ≡ content l ++ xs)
    × (row_of l' ≡ written (row_of l) (length (content l)) xs)
    × (room l' ≡ room l)

-- a script k is performed from the state s on: the lists before and after, what is told, and the memory's words once the
-- store is closed
pub record Performed (s : Plain) (k : Script) (l l' : Lists) (r : Result ℕ PlayerFault) (vs : List ℕ) : Type 0 where
  -- the fault, or the number of active tasks
  pub outcome : r ≡ told k.answer (active_tasks (state_after_all s k.played))
  -- the turns that are read, and the answers to those that are played
  pub turns : Gained l.turns k.read l'.turns
  pub answers : Gained l.answers (answers_of s k.played) l'.answers
  pub words : vs ≡ memory_words (state_after_all s k.played)
  -- and the turns that are played, with these answers, read sequentially
  pub sequential : ReadsOn s (paired k.played (drop (length (content l.answers)) (content l'.answers))) (state_after_all s k.played)

-- an image and a text are played over a memory with the words ws
abbrev pub PlayedFrom : List ℕ → List ℕ → List ℕ → Lists → Lists → Result ℕ PlayerFault → List ℕ → Type 0
PlayedFrom ws image text l l' r vs = Performed (opened (loaded_words ws image)) (script_over ws image text l) l l' r vs

-- the same, with image and text side by side
abbrev pub PlayedOver : List ℕ → Input → Lists → Lists → Result ℕ PlayerFault → List ℕ → Type 0
PlayedOver ws input l l' r vs = PlayedFrom ws input.image.now input.text.now l l' r vs
