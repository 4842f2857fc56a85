-- Reading a text line by line.
use Rattle.std.proofs.Common.{◌≡◌, ℕ, ◌+◌, ◌-◌, ◌<◌, ◌≤◌, Bool, true, false, cond, eqb, ltb, List, [], ◌∷◌, ◌++◌, length, set, Some, None, Ok, Err, Option, Result, sym, refl, ap, ◌∙◌, subst, arith}
use Rattle.std.proofs.lemmas.List.{append-nil, append_assoc, length_push}
use Rattle.std.proofs.lemmas.Bool.{cond-true, cond-false, leb-true, leb-false, le-ltb, lt-ltb}
use Rattle.std.specs.List.{onto_first, before_first}
use Rattle.versions.specs.declared.turn.Turn.{Turn}
use Rattle.player.specs.declared.fault.ListFault.TheVariants.{Full}
use Rattle.player.specs.declared.fault.TextWhy.{TextWhy}
use Rattle.player.specs.declared.fault.TextWhy.TheVariants as why
use Rattle.player.specs.Left.{first_line, after, further, parts_left, line_answer, line_turn, listed_answer, listed, listed_row}
use Rattle.player.specs.Lines.{turn_of, turn_of_parts, turn_of_verb, unfinished}
use Rattle.player.specs.Lists.{is_full}
use Rattle.player.specs.Splits.{line_end, space, text_lines}
use Rattle.player.specs.Text.{Reading, refused_at, turn_before, line_read, lines_read, written}
use Rattle.player.specs.Tokens.{Word, verb, PlacedWord, part, after_part, verb_token}
use Rattle.player.specs.Verbs.{verb_named}
use Rattle.player.proofs.Following.{before_sep-cons, split-first, part-is, after-part, word_in}

-- a verb and the parts after it are the parts of the line
pub turn-here : (s : List ℕ) → turn_of_verb (verb_named (part s)) (parts_left (after_part s)) ≡ turn_of (first_line s)
turn-here s =
    ap (turn_of_verb (verb_named (part s))) (after-part s).0
    ∙ sym (ap turn_of_parts (split-first space (first_line s) ∙ ap (λ (l : List ℕ). l ∷ parts_left s) (part-is s)))

pub after-length : (sep : ℕ) (s t : List ℕ) → after sep s ≡ Some t → length s ≡ (length (before_first (λ b. eqb b sep) s) + 1) + length t
after-length sep [] t is = let z : ◌≡◌ {A = ℕ} 0 1 = cc in absurd (omega arith)
after-length sep (b ∷ bs) t is = go (eqb b sep) is (after-length sep bs t) ∙ ap (λ (l : List ℕ). (length l + 1) + length t) (sym (before_sep-cons sep b bs))
  where
    front : List ℕ
    front = before_first (λ c. eqb c sep) bs

    go : (u : Bool) → cond u (Some bs) (after sep bs) ≡ Some t → (after sep bs ≡ Some t → length bs ≡ (length front + 1) + length t)
        → length (b ∷ bs) ≡ (length (cond u [] (b ∷ front)) + 1) + length t
    go true here more = let same : bs ≡ t = cc in omega (arith, ap length same)
    go false here more = omega (arith, more here)

-- what a line and the lines after it give, by what comes after the line
abbrev by_line : ℕ → ℕ → Result Turn TextWhy → ℕ → Option (List ℕ) → Reading
by_line at free r long None = refused_at at (unfinished r)
by_line at free r long (Some t) = line_read at free r (lines_read ((at + long) + 1) (free - 1) (text_lines t))

pub lines_cons : (at free : ℕ) (line t : List ℕ)
    → lines_read at free (line ∷ text_lines t) ≡ line_read at free (turn_of line) (lines_read ((at + length line) + 1) (free - 1) (text_lines t))
lines_cons at free line t =
    subst (λ (ps : List (List ℕ)). lines_read at free (line ∷ ps) ≡ line_read at free (turn_of line) (lines_read ((at + length line) + 1) (free - 1) ps))
    (sym (split-first line_end t)) refl

-- a line b ∷ line, before this after the line
lines-by : (at free b : ℕ) (line : List ℕ) (o : Option (List ℕ))
    → lines_read at free ((b ∷ line) ∷ further line_end o) ≡ by_line at free (turn_of (b ∷ line)) (length (b ∷ line)) o
lines-by at free b line None = refl
lines-by at free b line (Some t) = lines_cons at free (b ∷ line) t

read_first : (at free : ℕ) (s : List ℕ) → 0 < length s
    → lines_read at free (text_lines s) ≡ by_line at free (turn_of (first_line s)) (length (first_line s)) (after line_end s)
read_first at free [] some = absurd (omega arith)
read_first at free (b ∷ bs) some =
    go (eqb b line_end) ∙ ap (λ (l : List ℕ). by_line at free (turn_of l) (length l) (after line_end (b ∷ bs))) (sym (before_sep-cons line_end b bs))
  where
    go : (u : Bool) → lines_read at free (cond u ([] ∷ text_lines bs) (onto_first b (text_lines bs)))
        ≡ by_line at free (turn_of (cond u [] (b ∷ first_line bs))) (length (cond u [] (b ∷ first_line bs))) (cond u (Some bs) (after line_end bs))
    go true = lines_cons at free [] bs
    go false = ap (λ (ps : List (List ℕ)). lines_read at free (onto_first b ps)) (split-first line_end bs) ∙ lines-by at free b (first_line bs) (after line_end bs)

-- a line that is refused ends the reading
pub line_refused : (at free : ℕ) (s : List ℕ) (e : TextWhy) → 0 < length s → ◌≡◌ {A = Result Turn TextWhy} (Err e) (line_answer (after line_end s) (turn_of (first_line s)))
    → lines_read at free (text_lines s) ≡ refused_at at e
line_refused at free s e some is = read_first at free s some ∙ go (after line_end s) (turn_of (first_line s)) is
  where
    go : (o : Option (List ℕ)) (r : Result Turn TextWhy) → ◌≡◌ {A = Result Turn TextWhy} (Err e) (line_answer o r)
        → by_line at free r (length (first_line s)) o ≡ refused_at at e
    go None r q = let same : unfinished r ≡ e = cc in ap (refused_at at) same
    go (Some t) (Err f) q = let same : f ≡ e = cc in ap (refused_at at) same
    go (Some t) (Ok u) q = let z : ◌≡◌ {A = ℕ} 0 1 = cc in absurd (omega arith)

-- a line with a turn comes before the lines that are left, which begin at the place next
pub line-accepted : (at next free : ℕ) (s left : List ℕ) (t : Turn) → 0 < length s → ◌≡◌ {A = Result Turn TextWhy} (Ok t) (line_answer (after line_end s) (turn_of (first_line s)))
    → after line_end s ≡ Some left → next + length left ≡ at + length s
    → lines_read at free (text_lines s) ≡ line_read at free (Ok t) (lines_read next (free - 1) (text_lines left))
line-accepted at next free s left t some is rest place =
    read_first at free s some
    ∙ (ap (by_line at free (turn_of (first_line s)) long) rest
    ∙ (ap (λ (r : Result Turn TextWhy). line_read at free r (lines_read ((at + long) + 1) (free - 1) (text_lines left))) turn
    ∙ ap (λ (k : ℕ). line_read at free (Ok t) (lines_read k (free - 1) (text_lines left))) there))
  where
    long : ℕ
    long = length (first_line s)

    turn : turn_of (first_line s) ≡ Ok t
    turn = sym (is ∙ ap (λ (o : Option (List ℕ)). line_answer o (turn_of (first_line s))) rest)

    there : (at + length (first_line s)) + 1 ≡ next
    there = omega (arith, after-length line_end s left rest)

-- the elements xs and the row of a list and what is still to be read, against those at the beginning
pub record Begun (xs₀ row₀ : List Turn) (all : Reading) (xs row : List Turn) (left : Reading) : Type 0 where
  pub answer : left.answer ≡ all.answer
  pub turns : xs ++ left.turns ≡ xs₀ ++ all.turns
  pub rows : written row (length xs) left.turns ≡ written row₀ (length xs₀) all.turns

-- the verb that was taken off s
abbrev place_in : Option PlacedWord → ℕ
place_in None = 0
place_in (Some p) = p.at

pub verb-taken : (at at' : ℕ) (s : List ℕ) (w : Word) → Some (record { word = w; at = at' }) ≡ verb_token at s → (0 < length s) × (w ≡ verb (part s)) × (at' ≡ at)
verb-taken at at' [] w is = let z : ◌≡◌ {A = ℕ} 0 1 = cc in absurd (omega arith)
verb-taken at at' (b ∷ bs) w is = (omega arith, ap word_in is, ap place_in is)

-- the turn of the line that begins s, where left is what the verb left
pub line-turn : (s left : List ℕ) (w : Word) → w ≡ verb (part s) → left ≡ after_part s → line_turn w left ≡ line_answer (after line_end s) (turn_of (first_line s))
line-turn s left w w-is left_is =
    ap (λ (v : Word). line_turn v left) w-is
    ∙ (ap (line_turn (verb (part s))) left_is
    ∙ (ap (λ (o : Option (List ℕ)). line_answer o (turn_of_verb (verb_named (part s)) (parts_left (after_part s)))) (after-part s).1
    ∙ ap (line_answer (after line_end s)) (turn-here s)))

-- a line with a turn for which there is no room
line-full : (at free : ℕ) (s : List ℕ) (t : Turn) → 0 < length s → free ≡ 0 → ◌≡◌ {A = Result Turn TextWhy} (Ok t) (line_answer (after line_end s) (turn_of (first_line s)))
    → lines_read at free (text_lines s) ≡ refused_at at (why.List Full)
line-full at free s t some none is = read_first at free s some ∙ go (after line_end s) (turn_of (first_line s)) is
  where
    go : (o : Option (List ℕ)) (r : Result Turn TextWhy) → ◌≡◌ {A = Result Turn TextWhy} (Ok t) (line_answer o r)
        → by_line at free r (length (first_line s)) o ≡ refused_at at (why.List Full)
    go None r q = let z : ◌≡◌ {A = ℕ} 0 1 = cc in absurd (omega arith)
    go (Some u) (Err f) q = let z : ◌≡◌ {A = ℕ} 0 1 = cc in absurd (omega arith)
    go (Some u) (Ok v) q = cond-false (ltb 0 free) _ _ (le-ltb 0 free (omega arith))

-- after a line that was refused nothing more is read, and the list is as it was
abbrev Stopped : ℕ → ℕ → List ℕ → TextWhy → List Turn → ℕ → List Turn → Result Turn TextWhy → Type 0
Stopped at free s e xs n row r = (lines_read at free (text_lines s) ≡ refused_at at e) × (listed r xs n ≡ xs) × (listed_row r xs n row ≡ row)

stopped : (at n : ℕ) (s : List ℕ) (xs row : List Turn) (r : Result Turn TextWhy) (e : TextWhy) → 0 < length s → r ≡ line_answer (after line_end s) (turn_of (first_line s))
    → Err e ≡ listed_answer r xs n → Stopped at (n - length xs) s e xs n row r
stopped at n s xs row (Err f) e some is refused =
    let same : f ≡ e = cc in
    (line_refused at (n - length xs) s e some (ap (λ (g : TextWhy). Err g) (sym same) ∙ is), refl, refl)
stopped at n s xs row (Ok t) e some is refused = go (is_full xs n) refl refused
  where
    go : (b : Bool) → is_full xs n ≡ b → ◌≡◌ {A = Result (Unit {0}) TextWhy} (Err e) (cond b (Err (why.List Full)) (Ok tt)) → Stopped at (n - length xs) s e xs n row (Ok t)
    go true full q =
        let same : why.List Full ≡ e = cc in
        let over : n ≤ length xs = leb-true n (length xs) full in (
          line-full at (n - length xs) s t some (omega arith) is ∙ ap (refused_at at) same,
          cond-true (is_full xs n) _ _ full,
          cond-true (is_full xs n) _ _ full,
        )
    go false room q = let z : ◌≡◌ {A = ℕ} 0 1 = cc in absurd (omega arith)

-- the list at the end, with the fault of the line at a place
pub record Ended (xs₀ row₀ : List Turn) (all : Reading) (at : ℕ) (e : TextWhy) (xs row : List Turn) : Type 0 where
  pub answer : Err (record { why = e; place = at }) ≡ all.answer
  pub turns : xs ≡ xs₀ ++ all.turns
  pub rows : row ≡ written row₀ (length xs₀) all.turns

pub line-stops : (at n : ℕ) (s : List ℕ) (xs₀ row₀ xs row xs' row' : List Turn) (all : Reading) (r : Result Turn TextWhy) (e : TextWhy) → 0 < length s
    → r ≡ line_answer (after line_end s) (turn_of (first_line s)) → Err e ≡ listed_answer r xs n → xs' ≡ listed r xs n → row' ≡ listed_row r xs n row
    → Begun xs₀ row₀ all xs row (lines_read at (n - length xs) (text_lines s)) → Ended xs₀ row₀ all at e xs' row'
line-stops at n s xs₀ row₀ xs row xs' row' all r e some is refused xs-is row_is so_far =
    let stop = stopped at n s xs row r e some is refused in
    let begun : Begun xs₀ row₀ all xs row (refused_at at e) = subst (Begun xs₀ row₀ all xs row) stop.0 so_far in
    record {
      answer = begun.answer;
      turns = xs-is ∙ (stop.1 ∙ (sym (append-nil xs) ∙ begun.turns));
      rows = row_is ∙ (stop.2 ∙ begun.rows);
    }

-- after a line whose turn was added the reading goes on with what is left
pub line-goes-on : (at next n : ℕ) (s left : List ℕ) (xs₀ row₀ xs row xs' row' : List Turn) (all : Reading) (r : Result Turn TextWhy) → 0 < length s
    → r ≡ line_answer (after line_end s) (turn_of (first_line s)) → Ok tt ≡ listed_answer r xs n → xs' ≡ listed r xs n → row' ≡ listed_row r xs n row
    → after line_end s ≡ Some left → next + length left ≡ at + length s
    → Begun xs₀ row₀ all xs row (lines_read at (n - length xs) (text_lines s)) → Begun xs₀ row₀ all xs' row' (lines_read next (n - length xs') (text_lines left))
line-goes-on at next n s left xs₀ row₀ xs row xs' row' all (Err f) some is took xs-is row_is rest place so_far = let z : ◌≡◌ {A = ℕ} 0 1 = cc in absurd (omega arith)
line-goes-on at next n s left xs₀ row₀ xs row xs' row' all (Ok t) some is took xs-is row_is rest place so_far = go (is_full xs n) refl took
  where
    go : (b : Bool) → is_full xs n ≡ b → ◌≡◌ {A = Result (Unit {0}) TextWhy} (Ok tt) (cond b (Err (why.List Full)) (Ok tt)) → Begun xs₀ row₀ all xs' row' (lines_read next (n - length xs') (text_lines left))
    go true full q = let z : ◌≡◌ {A = ℕ} 0 1 = cc in absurd (omega arith)
    go false room q =
        let under : length xs < n = leb-false n (length xs) room in
        let pushed-is : xs' ≡ xs ++ t ∷ [] = xs-is ∙ cond-false (is_full xs n) _ _ room in
        let put_is : row' ≡ set row (length xs) t = row_is ∙ cond-false (is_full xs n) _ _ room in
        let long : length xs' ≡ length xs + 1 = ap length pushed-is ∙ length_push xs t in
        let fewer : (n - length xs) - 1 ≡ n - length xs' = omega arith in
        let more : Reading = lines_read next (n - length xs') (text_lines left) in
        let here : lines_read at (n - length xs) (text_lines s) ≡ turn_before t more =
        line-accepted at next (n - length xs) s left t some is rest place
        ∙ (cond-true (ltb 0 (n - length xs)) _ _ (lt-ltb 0 (n - length xs) (omega arith)) ∙ ap (λ (k : ℕ). turn_before t (lines_read next k (text_lines left))) fewer) in
        let begun : Begun xs₀ row₀ all xs row (turn_before t more) = subst (Begun xs₀ row₀ all xs row) here so_far in
        record {
          answer = begun.answer;
          turns = ap (λ (l : List Turn). l ++ more.turns) pushed-is ∙ (append_assoc xs (t ∷ []) more.turns ∙ begun.turns);
          rows = ap (λ (l : List Turn). written l (length xs') more.turns) put_is ∙ (ap (λ (k : ℕ). written (set row (length xs) t) k more.turns) long ∙ begun.rows);
        }
