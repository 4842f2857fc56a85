-- A text of turns can be written in one way only.
use Rattle.std.specs.Prelude.{◌≡◌, ℕ, List, take, MatchResult}
use Rattle.player.specs.Text.{Reading}
use Rattle.player.specs.Writing.{text_of}

-- all bytes, or those before a fault, are the text of the turns that were read
abbrev pub Exact : List ℕ → Reading → Type 0
Exact text r = MatchResult r.answer (λ _. text ≡ text_of r.turns) (λ f. take f.place text ≡ text_of r.turns)
