-- The tokens of a text, one after another.
use Rattle.std.specs.Prelude.{ℕ, suc, ◌+◌, cond, ◌||◌, List, [], ◌∷◌, length, take, drop, Some, None, Option, ◌==◌}
use Rattle.player.specs.declared.token.Token.{Token}
use Rattle.player.specs.declared.token.Token.TheVariants.{Verb, Number, LineEnd}
use Rattle.player.specs.declared.token.Placed.{Placed}
use Rattle.player.specs.declared.token.Tokens.{Tokens}
use Rattle.player.specs.declared.verb.Verb.{Verb as TurnVerb}
use Rattle.player.specs.Splits.{line_end, space}
use Rattle.player.specs.Verbs.{verb_named}

-- a token by its bytes
pub data Word : Type 0 where
  verb : List ℕ → Word
  number : List ℕ → Word
  end : Word

pub record PlacedWord : Type 0 where
  pub word : Word
  pub at : ℕ

abbrev pub word_seen : Token → Word
word_seen (Verb part) = verb part.now
word_seen (Number part) = number part.now
word_seen LineEnd = end

abbrev pub words_seen : Option Placed → Option PlacedWord
words_seen None = None
words_seen (Some p) = Some (record { word = word_seen p.token; at = p.at })

-- the verb that a token names; a number or a line end names none
abbrev pub verb_seen : Word → Option TurnVerb
verb_seen (verb word) = verb_named word
verb_seen (number word) = None
verb_seen end = None

-- what is left of a text
abbrev pub text_left : Tokens → List ℕ
text_left t = t.rest.now

-- where that begins and ends in the text
abbrev pub read_place : Tokens → ℕ
read_place t = t.at

abbrev pub end_of : Tokens → ℕ
end_of t = read_place t + length (text_left t)

-- how many bytes come before the first space or line end
abbrev pub part_length : List ℕ → ℕ
part_length [] = 0
part_length (b ∷ bs) = cond (b == space || b == line_end) 0 (suc (part_length bs))

abbrev pub part : List ℕ → List ℕ
part bs = take (part_length bs) bs

abbrev pub after_part : List ℕ → List ℕ
after_part bs = drop (part_length bs) bs

-- the token with which a line begins, at the place where the text begins
abbrev pub verb_token : ℕ → List ℕ → Option PlacedWord
verb_token at [] = None
verb_token at (b ∷ bs) = Some (record { word = verb (part (b ∷ bs)); at = at })

-- the token that follows a part: a line end, or the number after a space
abbrev pub next_token : ℕ → List ℕ → Option PlacedWord
next_token at [] = None
next_token at (b ∷ bs) = cond (b == line_end) (Some (record { word = end; at = at })) (Some (record { word = number (part bs); at = at + 1 }))

abbrev pub after_next : List ℕ → List ℕ
after_next [] = []
after_next (b ∷ bs) = cond (b == line_end) bs (after_part bs)
