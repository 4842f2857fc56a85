-- A turn that the central buffer takes: refused, where its chain of conditions refuses; or served, for the processor that
-- the chain found.
use Rattle.std.proofs.Common.{◌≡◌, ℕ, List, Ok, Err, Result, refl, subst}
use Rattle.std.proofs.lemmas.Bool.{true≢false}
use Rattle.versions.specs.declared.refusal.Refusal.{Refusal}
use Rattle.versions.specs.declared.turn.Turn.{Turn}
use Rattle.versions.specs.Plain.{refusal_of}
use Rattle.versions.specs.Tables.{with_processor}
use Rattle.versions.specs.Taken.{Took}
use Rattle.versions.proofs.Judging.{Agrees}
use Rattle.versions.proofs.Serving.{Served, refused-by}
use Rattle.buffer.specs.declared.buffer.CentralBuffer.{CentralBuffer}
use Rattle.buffer.specs.Buffers.{plain_in, SoundBuffer}
use Rattle.buffer.specs.Tasks.{table_of}

module _ {M : Type 0} (words : M → List ℕ) (sound : M → Type 0) (spare : M → List ℕ) (b : CentralBuffer M) where
  pub turn-refused : (t : Turn) (r : Result ℕ Refusal) (e : Refusal) (p : ℕ) (place : Result ℕ Refusal) → SoundBuffer words sound b
      → Agrees place (refusal_of (plain_in words b) t) → Err e ≡ with_processor p place → r ≡ Err e → Took (plain_in words) (λ _ _ _. Unit {0}) (λ x. spare x.memory) (SoundBuffer words sound) b t r b
  turn-refused t r e p place kept agrees is r-is =
      let law = refused-by (plain_in words b) t r e p place agrees is r-is in
      record { answer = law.0; after = law.1; refused = λ _. refl; shows = tt; beside = refl; kept = kept }

  pub turn-served : (turn : ℕ → Turn) (p q n : ℕ) (later : CentralBuffer M) → q ≡ p → Served (plain_in words b) (turn q) (Ok n) (words later.memory) later.tasks.order (table_of later.tasks)
      → sound later.memory → spare later.memory ≡ spare b.memory → Took (plain_in words) (λ _ _ _. Unit {0}) (λ x. spare x.memory) (SoundBuffer words sound) b (turn p) (Ok n) later
  turn-served turn p q n later same law good beside =
      subst (λ (x : ℕ). Took (plain_in words) (λ _ _ _. Unit {0}) (λ y. spare y.memory) (SoundBuffer words sound) b (turn x) (Ok n) later) same
      (record { answer = law.answer; after = law.after; refused = λ no. absurd (true≢false no); shows = tt; beside = beside; kept = record { memory = good; apart = law.apart; fits = law.fits } })
