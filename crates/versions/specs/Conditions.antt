-- A call that is refused by the first of its conditions that holds.
use Rattle.std.specs.Prelude.{Bool, cond, List, [], ◌∷◌, Some, None, Ok, Err, Option, Result}

-- the refusal of the first condition that holds
abbrev pub first_of : {E : Type 0} → List (Bool × E) → Option E
first_of [] = None
first_of (c ∷ cs) = cond c.0 (Some c.1) (first_of cs)

-- x, unless the call is refused
abbrev pub answer_unless : {E X : Type 0} → Option E → X → Result X E
answer_unless None x = Ok x
answer_unless (Some e) x = Err e
