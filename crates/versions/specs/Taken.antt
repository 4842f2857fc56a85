-- A turn taken by a store of type S, by what the store's own type says of it: the plain state that it stands for, what it shows of
-- a turn, the bytes beside the words, and the condition that it keeps.
use Rattle.std.specs.Prelude.{◌≡◌, ℕ, false, List, [], ◌∷◌, Result, is_ok}
use Rattle.versions.specs.declared.refusal.Refusal.{Refusal}
use Rattle.versions.specs.declared.turn.Turn.{Turn}
use Rattle.versions.specs.Plain.{Plain, answer_of, state_after}

pub record Took {S : Type 0} (state : S → Plain) (show : S → Turn → S → Type 0) (rest : S → List ℕ) (good : S → Type 0) (s : S) (t : Turn) (r : Result ℕ Refusal) (later : S) : Type 0 where
  pub answer : r ≡ answer_of (state s) t
  pub after : state later ≡ state_after (state s) t
  -- a refused turn leaves the store itself, whatever stands beside its state
  pub refused : is_ok r ≡ false → later ≡ s
  pub shows : show s t later
  pub beside : rest later ≡ rest s
  pub kept : good later

-- what a store shows of turns that it took one after another: of each, from the state on that those before it leave
abbrev pub ShowsAll : {S : Type 0} → (S → Plain) → (S → Turn → S → Type 0) → S → List Turn → S → Type 0
ShowsAll state show s [] later = later ≡ s
ShowsAll {S} state show s (t ∷ ts) later = (next : S) × (state next ≡ state_after (state s) t) × show s t next × ShowsAll state show next ts later
