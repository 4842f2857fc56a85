-- How far a list of turns is played where there may be too few places for the answers.
use Rattle.std.specs.Prelude.{ℕ, min, cond, List, length, Ok, Err, Result, nat_lt}
use Rattle.versions.specs.declared.play.AnswersFull.{AnswersFull}
use Rattle.versions.specs.declared.refusal.Refusal.{Refusal}
use Rattle.versions.specs.declared.turn.Turn.{Turn}

-- as many turns as there are turns and places
abbrev pub turns_played : List Turn → List (Result ℕ Refusal) → ℕ
turns_played ts rs = min (length ts) (length rs)

-- full where a turn is left: the first one without a place was not played
abbrev pub play_answer : List Turn → List (Result ℕ Refusal) → Result (Unit {0}) AnswersFull
play_answer ts rs = cond (nat_lt (turns_played ts rs) (length ts)) (Err (record { at = turns_played ts rs })) (Ok tt)
