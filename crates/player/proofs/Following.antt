-- What follows a part of a line.
use Rattle.std.proofs.Common.{◌≡◌, ℕ, suc, ◌+◌, ◌<◌, Bool, true, false, cond, not, ◌||◌, eqb, List, [], ◌∷◌, take, Some, None, Ok, Err, Option, Result, sym, refl, ap, ◌∙◌, subst, arith, MatchResult}
use Rattle.std.specs.List.{slice_split, onto_first, before_first}
use Rattle.std.specs.Option.{option_map}
use Rattle.std.proofs.lemmas.List.Sums.{take_while-cons}
use Rattle.player.specs.declared.fault.TextWhy.{TextWhy}
use Rattle.player.specs.declared.fault.TextWhy.TheVariants.{Field}
use Rattle.player.specs.declared.token.Placed.{Placed}
use Rattle.player.specs.declared.token.Token.{Token}
use Rattle.player.specs.declared.token.Token.TheVariants.{Verb, Number, LineEnd}
use Rattle.player.specs.declared.verb.Verb.{Verb as TurnVerb}
use Rattle.player.specs.declared.verb.Verb.TheVariants as verb
use Rattle.player.specs.Fields.{field_of}
use Rattle.player.specs.Left.{first_line, after, further, parts_left, FieldTaken, NoField, NoTurn, end_answer}
use Rattle.player.specs.Lines.{fields_of, field_before, turn_of_fields}
use Rattle.player.specs.Splits.{line_end, space, line_parts}
use Rattle.player.specs.Tokens.{Word, word_seen, words_seen, number, end, PlacedWord, part_length, part, after_part, next_token, after_next}
use Rattle.player.specs.Verbs.{field_count}

-- what stands before the first sep, after one byte more
pub before_sep-cons : (sep b : ℕ) (bs : List ℕ) → before_first (λ c. eqb c sep) (b ∷ bs) ≡ cond (eqb b sep) [] (b ∷ before_first (λ c. eqb c sep) bs)
before_sep-cons sep b bs = take_while-cons (λ c. not (eqb c sep)) b bs ∙ go (eqb b sep)
  where
    go : (t : Bool) → cond (not t) (b ∷ before_first (λ c. eqb c sep) bs) [] ≡ cond t [] (b ∷ before_first (λ c. eqb c sep) bs)
    go true = refl
    go false = refl

pub split-first : (sep : ℕ) (s : List ℕ) → slice_split (λ b. eqb b sep) s ≡ before_first (λ b. eqb b sep) s ∷ further sep (after sep s)
split-first sep [] = refl
split-first sep (b ∷ bs) = go (eqb b sep) (split-first sep bs) ∙ ap (λ (l : List ℕ). l ∷ further sep (after sep (b ∷ bs))) (sym (before_sep-cons sep b bs))
  where
    front : List ℕ
    front = before_first (λ c. eqb c sep) bs

    parts : List (List ℕ)
    parts = slice_split (λ c. eqb c sep) bs

    go : (t : Bool) → parts ≡ front ∷ further sep (after sep bs)
        → cond t ([] ∷ parts) (onto_first b parts) ≡ cond t [] (b ∷ front) ∷ further sep (cond t (Some bs) (after sep bs))
    go true ih = refl
    go false ih = ap (onto_first b) ih

-- a part is what comes before the first space of what comes before the first line end
pub part-is : (s : List ℕ) → before_first (λ b. eqb b space) (first_line s) ≡ part s
part-is [] = refl
part-is (b ∷ bs) = ap front (before_sep-cons line_end b bs) ∙ go (eqb b line_end) (part-is bs)
  where
    stops : (f : Bool) → [] ≡ take (cond (f || true) 0 (suc (part_length bs))) (b ∷ bs)
    stops true = refl
    stops false = refl

    front : List ℕ → List ℕ
    front = before_first (λ c. eqb c space)

    goes_on : (f : Bool) → front (first_line bs) ≡ part bs → cond f [] (b ∷ front (first_line bs)) ≡ take (cond (f || false) 0 (suc (part_length bs))) (b ∷ bs)
    goes_on true ih = refl
    goes_on false ih = ap (λ (l : List ℕ). b ∷ l) ih

    go : (e : Bool) → front (first_line bs) ≡ part bs → front (cond e [] (b ∷ first_line bs)) ≡ take (cond (eqb b space || e) 0 (suc (part_length bs))) (b ∷ bs)
    go true ih = stops (eqb b space)
    go false ih = before_sep-cons space b (first_line bs) ∙ goes_on (eqb b space) ih

-- the bytes of a part do not change which parts come after it, nor what comes after the line
pub after-part : (s : List ℕ) → (parts_left (after_part s) ≡ parts_left s) × (after line_end (after_part s) ≡ after line_end s) × (part_length (after_part s) ≡ 0)
after-part [] = (refl, refl, refl)
after-part (b ∷ bs) = go (eqb b line_end) (eqb b space) refl refl (after-part bs)
  where
    go : (e f : Bool) → eqb b line_end ≡ e → eqb b space ≡ f → (parts_left (after_part bs) ≡ parts_left bs) × (after line_end (after_part bs) ≡ after line_end bs) × (part_length (after_part bs) ≡ 0)
        → (parts_left (after_part (b ∷ bs)) ≡ parts_left (b ∷ bs)) × (after line_end (after_part (b ∷ bs)) ≡ after line_end (b ∷ bs)) × (part_length (after_part (b ∷ bs)) ≡ 0)
    go true true is-e is_f ih = rw (is-e, is_f) (rw (is-e, is_f) (refl, refl, refl))
    go true false is-e is_f ih = rw (is-e, is_f) (rw (is-e, is_f) (refl, refl, refl))
    go false true is-e is_f ih = rw (is-e, is_f) (rw (is-e, is_f) (refl, refl, refl))
    go false false is-e is_f ih =
        let here : after_part (b ∷ bs) ≡ after_part bs = rw (is-e, is_f) refl in
        let parts : parts_left (b ∷ bs) ≡ parts_left bs = ap (λ (l : List ℕ). further space (after space l)) (before_sep-cons line_end b bs) ∙ rw (is-e, is_f) refl in
        (ap parts_left here ∙ (ih.0 ∙ sym parts), rw (is-e, is_f) ih.1, rw (is-e, is_f) ih.2)

-- between parts there is a space, a line end or nothing more
between-space : (b : ℕ) (bs : List ℕ) → part_length (b ∷ bs) ≡ 0 → eqb b line_end ≡ false → eqb b space ≡ true
between-space b bs none not_end = go (eqb b space) (eqb b line_end) not_end none
  where
    go : (f e : Bool) → e ≡ false → cond (f || e) 0 (suc (part_length bs)) ≡ 0 → f ≡ true
    go true e is-e h = refl
    go false true is-e h = sym is-e
    go false false is-e h = absurd (omega arith)

-- the parts after a space
parts-after-space : (b : ℕ) (bs : List ℕ) → eqb b line_end ≡ false → eqb b space ≡ true → parts_left (b ∷ bs) ≡ part bs ∷ parts_left bs
parts-after-space b bs not_end is-space =
    let first : parts_left (b ∷ bs) ≡ line_parts (first_line bs) =
    ap (λ (l : List ℕ). further space (after space l)) (before_sep-cons line_end b bs) ∙ rw (not_end, is-space) refl in
    first ∙ (split-first space (first_line bs) ∙ ap (λ (l : List ℕ). l ∷ further space (after space (first_line bs))) (part-is bs))

-- a number that was taken is the next part
abbrev pub word_in : Option PlacedWord → Word
word_in None = end
word_in (Some p) = p.word

abbrev NumberTaken : List ℕ → List ℕ → List ℕ → Type 0
NumberTaken s word left = (parts_left s ≡ word ∷ parts_left left) × (after line_end left ≡ after line_end s) × (part_length left ≡ 0)

number-taken : (at : ℕ) (s word left : List ℕ) → part_length s ≡ 0 → number word ≡ word_in (next_token at s) → left ≡ after_next s → NumberTaken s word left
number-taken at [] word left none is left_is = let z : ◌≡◌ {A = ℕ} 0 1 = cc in absurd (omega arith)
number-taken at (b ∷ bs) word left none is left_is = go (eqb b line_end) refl is left_is
  where
    go : (t : Bool) → eqb b line_end ≡ t
        → number word ≡ word_in (cond t (Some (record { word = end; at = at })) (Some (record { word = number (part bs); at = at + 1 })))
        → left ≡ cond t bs (after_part bs) → NumberTaken (b ∷ bs) word left
    go true is-end same rest = let z : ◌≡◌ {A = ℕ} 0 1 = cc in absurd (omega arith)
    go false not_end same rest =
        let is-space : eqb b space ≡ true = between-space b bs none not_end in
        let here : word ≡ part bs = cc in
        let on = after-part bs in
        subst (λ (l : List ℕ). NumberTaken (b ∷ bs) word l) (sym rest) (
          parts-after-space b bs not_end is-space ∙ (ap (λ (l : List ℕ). l ∷ parts_left bs) (sym here) ∙ ap (λ (ps : List (List ℕ)). word ∷ ps) (sym on.0)),
          on.1 ∙ sym (rw not_end refl),
          on.2,
        )

pub field-taken : (at at' : ℕ) (s word left : List ℕ) (w : Word) (r : Result ℕ TextWhy) → part_length s ≡ 0 → Some (record { word = w; at = at' }) ≡ next_token at s → w ≡ number word
    → left ≡ after_next s → r ≡ field_of word → MatchResult r (FieldTaken s left) (NoField s)
field-taken at at' s word left w r none is w-is left_is r-is = go r r-is
  where
    taken : NumberTaken s word left
    taken = number-taken at s word left none (sym w-is ∙ ap word_in is) left_is

    go : (q : Result ℕ TextWhy) → q ≡ field_of word → MatchResult q (FieldTaken s left) (NoField s)
    go (Ok n) q-is = record { part = word; parts = taken.0; number = sym q-is; line = taken.1; between = taken.2 }
    go (Err e) q-is = record { refused = λ n. ap (fields_of (suc n)) taken.0 ∙ ap (λ (f : Result ℕ TextWhy). field_before f (fields_of n (parts_left left))) (sym q-is) }

-- the token that was next, if its place is left out
pub token-seen : (r : Option Placed) (t : Token) → option_map (λ (p : Placed). p.token) r ≡ Some t → (at : ℕ) × (words_seen r ≡ Some (record { word = word_seen t; at = at }))
token-seen None t is = let z : ◌≡◌ {A = ℕ} 0 1 = cc in absurd (omega arith)
token-seen (Some p) t is = let same : p.token ≡ t = cc in (p.at, ap (λ (u : Token). Some (record { word = word_seen u; at = p.at })) same)

-- a part in place of a line end
not-end-seen : (t : Token) → (t ≡ LineEnd → ⊥) → word_seen t ≡ end → ⊥
not-end-seen (Verb w) not_end is = let z : ◌≡◌ {A = ℕ} 0 1 = cc in omega arith
not-end-seen (Number w) not_end is = let z : ◌≡◌ {A = ℕ} 0 1 = cc in omega arith
not-end-seen LineEnd not_end is = not_end refl

pub end-missing : (at at' : ℕ) (s : List ℕ) (t : Token) → part_length s ≡ 0 → (t ≡ LineEnd → ⊥) → Some (record { word = word_seen t; at = at' }) ≡ next_token at s
    → ◌≡◌ {A = Result (Unit {0}) TextWhy} (Err Field) (end_answer (parts_left s) (after line_end s))
end-missing at at' [] t none not_end is = let z : ◌≡◌ {A = ℕ} 0 1 = cc in absurd (omega arith)
end-missing at at' (b ∷ bs) t none not_end is = go (eqb b line_end) refl (ap word_in is)
  where
    go : (u : Bool) → eqb b line_end ≡ u → word_seen t ≡ word_in (cond u (Some (record { word = end; at = at })) (Some (record { word = number (part bs); at = at + 1 })))
        → ◌≡◌ {A = Result (Unit {0}) TextWhy} (Err Field) (end_answer (parts_left (b ∷ bs)) (after line_end (b ∷ bs)))
    go true is-end same = absurd (not-end-seen t not_end same)
    go false other same = sym (ap (λ (ps : List (List ℕ)). end_answer ps (after line_end (b ∷ bs))) (parts-after-space b bs other (between-space b bs none other)))

-- what the fields from a place on give, where the first of them is read
field-read : (n : ℕ) (s t : List ℕ) (f : ℕ) → FieldTaken s t f → fields_of (suc n) (parts_left s) ≡ field_before (Ok f) (fields_of n (parts_left t))
field-read n s t f taken = ap (fields_of (suc n)) taken.parts ∙ ap (λ (r : Result ℕ TextWhy). field_before r (fields_of n (parts_left t))) taken.number

-- a verb whose first, second or third field is refused has no turn
pub first_refused : (v : TurnVerb) (s : List ℕ) (e : TextWhy) → NoField s e → NoTurn v s e
first_refused v s e none = record { refused = go v }
  where
    go : (u : TurnVerb) → turn_of_fields u (fields_of (field_count u) (parts_left s)) ≡ Err e
    go verb.Start = ap (turn_of_fields verb.Start) (none.refused 0)
    go verb.Load = ap (turn_of_fields verb.Load) (none.refused 1)
    go verb.Store = ap (turn_of_fields verb.Store) (none.refused 2)
    go verb.Squash = ap (turn_of_fields verb.Squash) (none.refused 0)
    go verb.Commit = ap (turn_of_fields verb.Commit) (none.refused 0)
    go verb.Replace = ap (turn_of_fields verb.Replace) (none.refused 1)

pub second_refused : (v : TurnVerb) (s t : List ℕ) (f : ℕ) (e : TextWhy) → 1 < field_count v → FieldTaken s t f → NoField t e → NoTurn v s e
second_refused v s t f e more taken none = record { refused = go v more }
  where
    go : (u : TurnVerb) → 1 < field_count u → turn_of_fields u (fields_of (field_count u) (parts_left s)) ≡ Err e
    go verb.Start h = absurd (omega arith)
    go verb.Load h = ap (turn_of_fields verb.Load) (field-read 1 s t f taken ∙ ap (field_before (Ok f)) (none.refused 0))
    go verb.Store h = ap (turn_of_fields verb.Store) (field-read 2 s t f taken ∙ ap (field_before (Ok f)) (none.refused 1))
    go verb.Squash h = absurd (omega arith)
    go verb.Commit h = absurd (omega arith)
    go verb.Replace h = ap (turn_of_fields verb.Replace) (field-read 1 s t f taken ∙ ap (field_before (Ok f)) (none.refused 0))

pub third_refused : (s t u : List ℕ) (f g : ℕ) (e : TextWhy) → FieldTaken s t f → FieldTaken t u g → NoField u e → NoTurn verb.Store s e
third_refused s t u f g e first second none = record {
  refused = ap (turn_of_fields verb.Store)
      (field-read 2 s t f first ∙ (ap (field_before (Ok f)) (field-read 1 t u g second) ∙ ap (λ (r : Result (List ℕ) TextWhy). field_before (Ok f) (field_before (Ok g) r)) (none.refused 0)));
}

-- that a field is refused
pub ruleset refused_fields = (first_refused, second_refused, third_refused)
