-- Worked runs of the plain store. Each begins with 64 zero words and tasks started on processors 0, 1, 2 and 3.
use Rattle.std.specs.Prelude.{◌≡◌, ℕ, List, [], ◌∷◌, replicate, Ok, Err, Result}
use Rattle.versions.specs.declared.refusal.Refusal.{Refusal}
use Rattle.versions.specs.declared.refusal.Refusal.TheVariants.{NoProcessor, TaskActive, NoTask, NoAddress, ClassTaken, NotHead, IsHead, NotHeld}
use Rattle.versions.specs.declared.turn.Turn.{Turn}
use Rattle.versions.specs.declared.turn.Turn.TheVariants.{Start, Load, Store, Squash, Commit, Replace}
use Rattle.versions.specs.Plain.{Plain, opened, state_after_all, answers_of}

abbrev pub four_tasks : Plain
four_tasks = state_after_all (opened (replicate 64 0)) (Start 0 ∷ Start 1 ∷ Start 2 ∷ Start 3 ∷ [])

abbrev pub Answers : List Turn → List (Result ℕ Refusal) → Type 0
Answers ts rs = answers_of four_tasks ts ≡ rs

pub record WorkedRuns : Type 0 where
  pub last_address : Answers (Load 0 63 ∷ Load 0 64 ∷ []) (Ok 0 ∷ Err NoAddress ∷ [])
  pub one_of_a_class : Answers (Load 1 5 ∷ Load 1 21 ∷ []) (Ok 0 ∷ Err ClassTaken ∷ [])
  pub equal_word_squashes : Answers (Store 0 5 7 ∷ Load 2 5 ∷ Store 0 5 7 ∷ []) (Ok 0 ∷ Ok 7 ∷ Ok 2 ∷ [])
  pub version_between_hides : Answers (Store 1 5 8 ∷ Load 2 5 ∷ Store 0 5 7 ∷ []) (Ok 0 ∷ Ok 8 ∷ Ok 0 ∷ [])
  pub mark_outlives_store : Answers (Load 2 5 ∷ Store 2 5 9 ∷ Store 0 5 7 ∷ []) (Ok 0 ∷ Ok 0 ∷ Ok 2 ∷ [])
  pub own_word_sets_no_mark : Answers (Store 2 5 9 ∷ Load 2 5 ∷ Store 0 5 7 ∷ []) (Ok 0 ∷ Ok 9 ∷ Ok 0 ∷ [])
  pub replaced_is_not_held : Answers (Store 0 5 7 ∷ Replace 0 5 ∷ Replace 0 5 ∷ []) (Ok 0 ∷ Ok 1 ∷ Err NotHeld ∷ [])
  pub head_rules : Answers (Commit 1 ∷ Squash 0 ∷ Squash 1 ∷ []) (Err NotHead ∷ Err IsHead ∷ Ok 3 ∷ [])
  pub restart_after_commit : Answers (Store 0 5 7 ∷ Commit 0 ∷ Start 0 ∷ Store 1 5 8 ∷ Load 0 5 ∷ []) (Ok 0 ∷ Ok 1 ∷ Ok 3 ∷ Ok 0 ∷ Ok 8 ∷ [])
  pub replaced_mark_is_gone : Answers (Load 0 5 ∷ Replace 0 5 ∷ Replace 0 5 ∷ []) (Ok 0 ∷ Ok 0 ∷ Err NotHeld ∷ [])
  -- each refusal, in every kind of turn that can have it, while the conditions of later ones hold as well
  pub processor_comes_first : Answers (Start 4 ∷ Load 4 64 ∷ Store 4 64 7 ∷ Squash 4 ∷ Commit 4 ∷ Replace 4 64 ∷ []) (Err NoProcessor ∷ Err NoProcessor ∷ Err NoProcessor ∷ Err NoProcessor ∷ Err NoProcessor ∷ Err NoProcessor ∷ [])
  pub one_task_a_processor : Answers (Start 0 ∷ []) (Err TaskActive ∷ [])
  pub task_comes_next : Answers (Commit 0 ∷ Load 0 64 ∷ Store 0 64 7 ∷ Squash 0 ∷ Commit 0 ∷ Replace 0 64 ∷ []) (Ok 0 ∷ Err NoTask ∷ Err NoTask ∷ Err NoTask ∷ Err NoTask ∷ Err NoTask ∷ [])
  pub address_comes_next : Answers (Load 1 5 ∷ Load 1 69 ∷ Store 1 69 7 ∷ Replace 1 69 ∷ []) (Ok 0 ∷ Err NoAddress ∷ Err NoAddress ∷ Err NoAddress ∷ [])
  pub sixteen_classes : Answers (Load 1 5 ∷ Load 1 13 ∷ Load 2 21 ∷ Load 1 5 ∷ Store 1 21 7 ∷ []) (Ok 0 ∷ Ok 0 ∷ Ok 0 ∷ Ok 0 ∷ Err ClassTaken ∷ [])
  pub own_word_takes_class : Answers (Store 1 5 7 ∷ Store 1 5 8 ∷ Load 1 21 ∷ []) (Ok 0 ∷ Ok 0 ∷ Err ClassTaken ∷ [])
  pub not_head_before_not_held : Answers (Replace 1 5 ∷ []) (Err NotHead ∷ [])
  pub commit_counts_own_words : Answers (Load 0 5 ∷ Store 0 6 7 ∷ Store 0 8 9 ∷ Commit 0 ∷ []) (Ok 0 ∷ Ok 0 ∷ Ok 0 ∷ Ok 2 ∷ [])
