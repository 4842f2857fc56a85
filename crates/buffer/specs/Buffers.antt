-- The central buffer over a memory: the plain state that it stands for, and its condition.
use Rattle.std.specs.Prelude.{ℕ, List, length}
use Rattle.buffer.specs.declared.buffer.CentralBuffer.{CentralBuffer}
use Rattle.versions.specs.Orders.{Apart}
use Rattle.versions.specs.Plain.{Plain}
use Rattle.versions.specs.Tables.{plain_of, Fitting}
use Rattle.buffer.specs.Tasks.{processors_of, table_of}

-- the memory below the buffer; contracts cite it, since the field is private
abbrev pub memory_below : {M : Type 0} → CentralBuffer M → M
memory_below b = b.memory

abbrev pub plain_in : {M : Type 0} → (M → List ℕ) → CentralBuffer M → Plain
plain_in words b = plain_of (words (memory_below b)) (processors_of b.tasks) (table_of b.tasks)

pub record SoundBuffer {M : Type 0} (words : M → List ℕ) (sound : M → Type 0) (b : CentralBuffer M) : Type 0 where
  pub memory : sound (memory_below b)
  pub apart : Apart (processors_of b.tasks)
  pub fits : Fitting (length (words (memory_below b))) (processors_of b.tasks) (table_of b.tasks)
