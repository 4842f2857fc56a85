-- The listing of what was played, as text.
use Rattle.std.specs.Prelude.{◌≡◌, ℕ, zero, suc, ◌+◌, cond, List, [], ◌++◌, length, Ok, Err, codes, decimal, Result, ◌==◌, slice_index, slice_index_or}
use Rattle.versions.specs.declared.refusal.Refusal.{Refusal}
use Rattle.versions.specs.Plain.{Plain, opened, memory_words, active_tasks, answers_of, state_after_all}
use Rattle.versions.specs.Refusals.{refusal_number}
use Rattle.player.specs.declared.fault.PlayerFault.{PlayerFault}
use Rattle.player.specs.declared.play.Lists.{Lists}
use Rattle.player.specs.Capacity.{most_turns}
use Rattle.player.specs.Faults.{fault_text}
use Rattle.player.specs.Image.{load_answer, loaded_words}
use Rattle.player.specs.Lists.{content, free}
use Rattle.player.specs.Scripts.{Script, script_after, text_script, told}

-- a turn's number and its answer
abbrev pub answer_line : ℕ → Result ℕ Refusal → List ℕ
answer_line n (Ok k) = decimal n ++ (codes " ok " ++ (decimal k ++ codes "\n"))
answer_line n (Err e) = decimal n ++ (codes " no " ++ (decimal (refusal_number e) ++ codes "\n"))

-- an address and its word, where that is not 0
abbrev pub word_line : ℕ → ℕ → List ℕ
word_line a w = cond (w == 0) [] (codes "at " ++ (decimal a ++ (codes " " ++ (decimal w ++ codes "\n"))))

-- the lines of 0 up to, without, n
abbrev pub lines_below : (ℕ → List ℕ) → ℕ → List ℕ
lines_below line zero = []
lines_below line (suc n) = lines_below line n ++ line n

abbrev pub answer_lines : List (Result ℕ Refusal) → List ℕ
answer_lines rs = lines_below (λ i. answer_line (i + 1) (slice_index_or rs i (Ok 0))) (length rs)

abbrev pub word_lines : List ℕ → List ℕ
word_lines ws = lines_below (λ a. word_line a (slice_index ws a)) (length ws)

abbrev pub tasks_line : ℕ → List ℕ
tasks_line n = codes "tasks " ++ (decimal n ++ codes "\n")

-- answers, what is told in the end, and the memory's words; after a fault the fault alone
abbrev pub listing_of : List (Result ℕ Refusal) → Result ℕ PlayerFault → List ℕ → List ℕ
listing_of rs (Ok n) ws = answer_lines rs ++ (tasks_line n ++ word_lines ws)
listing_of rs (Err e) ws = fault_text e ++ codes "\n"

-- the listing of a script that is performed from the state s on
abbrev pub listing_from : Plain → Script → List ℕ
listing_from s k = listing_of (answers_of s k.played) (told k.answer (active_tasks (state_after_all s k.played))) (memory_words (state_after_all s k.played))

-- of a text that is played over an image, on a memory with the words ws, where there are places for the most turns
abbrev pub listing_played : List ℕ → List ℕ → List ℕ → List ℕ
listing_played ws image text =
    listing_from (opened (loaded_words ws image)) (script_after (load_answer (length ws) image) (text_script most_turns most_turns text))

-- lists with as many places for turns and for answers, that hold equal answers
pub record AlikeLists (l m : Lists) : Type 0 where
  pub turns_free : free l.turns ≡ free m.turns
  pub answers_free : free l.answers ≡ free m.answers
  pub held : content l.answers ≡ content m.answers

-- of two plays the same is told, with equal answers and words, so that their listings are equal
pub record ToldAlike (l m : Lists) (r s : Result ℕ PlayerFault) (vs ws : List ℕ) : Type 0 where
  pub outcome : r ≡ s
  pub answers : content l.answers ≡ content m.answers
  pub words : vs ≡ ws
  pub listing : listing_of (content l.answers) r vs ≡ listing_of (content m.answers) s ws
