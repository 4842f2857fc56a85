-- What is written is read back.
use Rattle.std.proofs.Common.{◌≡◌, ℕ, ◌+◌, ◌-◌, ◌^◌, ◌<◌, ◌≤◌, Bool, true, false, cond, not, ◌&&◌, eqb, ltb, leb, List, [], ◌∷◌, ◌++◌, map, length, get_or, Some, None, Ok, Err, decimal, Option, Result, refl, ap, ◌∙◌, ⊎_elim, arith}
use Rattle.std.specs.List.{flat_map, AllByRecursion, slice_split, onto_first}
use Rattle.std.specs.Str.Parse.{digits_value}
use Rattle.std.specs.Char.{is_ascii_digit}
use Rattle.std.specs.Str.{all_ascii_digits}
use Rattle.std.proofs.lemmas.Fmt.{decimal_digit, decimal_nonempty, first_decimal, digits_decimal, digits_value-decimal}
use Rattle.std.proofs.lemmas.List.{append_assoc, append-nil}
use Rattle.std.proofs.lemmas.Bool.{and_parts, cond-true, cond-false, eq-eqb, ne_eqb, leb-true, lt-ltb, cases_lt}
use Rattle.versions.specs.declared.turn.Turn.{Turn}
use Rattle.versions.specs.declared.turn.Turn.TheVariants.{Start, Load, Store, Squash, Commit, Replace}
use Rattle.versions.specs.Turns.{turn_text}
use Rattle.player.specs.declared.fault.TextWhy.{TextWhy}
use Rattle.player.specs.declared.fault.TextWhy.TheVariants as why
use Rattle.player.specs.declared.verb.Verb.{Verb}
use Rattle.player.specs.declared.verb.Verb.TheVariants as verb
use Rattle.player.specs.Fields.{plain_decimal, small, field_of}
use Rattle.player.specs.Lines.{field_before, fields_of, turn_of_fields, turn_of_verb, turn_of_parts, turn_of}
use Rattle.player.specs.Left.{after}
use Rattle.player.specs.Splits.{line_end, space, text_lines, line_parts}
use Rattle.player.specs.Text.{whole_read, turn_before, line_read, lines_read, text_read}
use Rattle.player.specs.Verbs.{verb_text, verb_named, field_count, turn_with}
use Rattle.player.specs.Writing.{fields_in, text_of, Small}
pub use Rattle.player.proofs.Numbering.{own}
use Rattle.player.proofs.Reading.{lines_cons}

-- a turn's text by its verb and its fields, each after its space
abbrev verb_of : Turn → Verb
verb_of (Start p) = verb.Start
verb_of (Load p a) = verb.Load
verb_of (Store p a w) = verb.Store
verb_of (Squash p) = verb.Squash
verb_of (Commit p) = verb.Commit
verb_of (Replace p a) = verb.Replace

abbrev pub field_text : ℕ → List ℕ
field_text n = space ∷ decimal n

pub by-fields : (t : Turn) → turn_text t ≡ verb_text (verb_of t) ++ flat_map field_text (fields_in t)
by-fields (Start p) = simp append-nil
by-fields (Load p a) = simp append-nil
by-fields (Store p a w) = simp append-nil
by-fields (Squash p) = simp append-nil
by-fields (Commit p) = simp append-nil
by-fields (Replace p a) = simp append-nil

-- bytes without a separator
no-separator-first : (sep b : ℕ) (bs : List ℕ) → after sep (b ∷ bs) ≡ None → (eqb b sep ≡ false) × (after sep bs ≡ None)
no-separator-first sep b bs none = go (eqb b sep) none
  where
    go : (u : Bool) → cond u (Some bs) (after sep bs) ≡ None → (u ≡ false) × (after sep bs ≡ None)
    go true q = let z : ◌≡◌ {A = ℕ} 0 1 = cc in absurd (omega arith)
    go false q = (refl, q)

-- bytes taken apart at each sep
abbrev apart : ℕ → List ℕ → List (List ℕ)
apart sep s = slice_split (λ b. eqb b sep) s

split-whole : (sep : ℕ) (s : List ℕ) → after sep s ≡ None → apart sep s ≡ s ∷ []
split-whole sep [] none = refl
split-whole sep (b ∷ bs) none =
    let here = no-separator-first sep b bs none in
    cond-false (eqb b sep) ([] ∷ apart sep bs) (onto_first b (apart sep bs)) here.0 ∙ ap (onto_first b) (split-whole sep bs here.1)

split_at : (sep : ℕ) (s t : List ℕ) → after sep s ≡ None → apart sep (s ++ sep ∷ t) ≡ s ∷ apart sep t
split_at sep [] t none = cond-true (eqb sep sep) ([] ∷ apart sep t) (onto_first sep (apart sep t)) (eq-eqb sep sep refl)
split_at sep (b ∷ bs) t none =
    let here = no-separator-first sep b bs none in
    cond-false (eqb b sep) ([] ∷ apart sep (bs ++ sep ∷ t)) (onto_first b (apart sep (bs ++ sep ∷ t))) here.0 ∙ ap (onto_first b) (split_at sep bs t here.1)

after-append : (sep : ℕ) (s t : List ℕ) → after sep s ≡ None → after sep t ≡ None → after sep (s ++ t) ≡ None
after-append sep [] t none more = more
after-append sep (b ∷ bs) t none more =
    let here = no-separator-first sep b bs none in
    cond-false (eqb b sep) (Some (bs ++ t)) (after sep (bs ++ t)) here.0 ∙ after-append sep bs t here.1 more

-- a digit is neither a space nor a line end
digits-no-separator : (sep : ℕ) (ds : List ℕ) → sep < 48 → all_ascii_digits ds ≡ true → after sep ds ≡ None
digits-no-separator sep [] low digits = refl
digits-no-separator sep (d ∷ ds) low digits =
    let both = and_parts (is_ascii_digit d) (all_ascii_digits ds) digits in
    let edges = and_parts (leb 48 d) (leb d 57) both.0 in
    cond-false (eqb d sep) (Some ds) (after sep ds) (ne_eqb d sep (λ e. omega (arith, leb-true 48 d edges.0))) ∙ digits-no-separator sep ds low both.1

-- a number of 32 bits, written and read
all_digits-decimal : (n : ℕ) → n < 2 ^ 32 → all_ascii_digits (decimal n) ≡ true
all_digits-decimal n h = digits_decimal own n (omega arith)

plain-from : (ds : List ℕ) → all_ascii_digits ds ≡ true → 0 < length ds → (get_or ds 0 0 ≡ 48 → length ds ≡ 1) → plain_decimal ds ≡ true
plain-from [] digits some lead = absurd (omega arith)
plain-from (d ∷ []) digits some lead = digits
plain-from (d ∷ e ∷ ds) digits some lead =
    ap (λ (t : Bool). not t && all_ascii_digits (d ∷ e ∷ ds)) (ne_eqb d 48 (λ q. omega (arith, lead q))) ∙ digits

plain-decimal : (n : ℕ) → n < 2 ^ 32 → plain_decimal (decimal n) ≡ true
plain-decimal n h =
    plain-from (decimal n) (all_digits-decimal n h) (decimal_nonempty n (omega arith))
    (λ q. ⊎_elim
    (λ (low : n < 10). ap length (decimal_digit n low))
    (λ (high : 10 ≤ n). absurd (omega (arith, first_decimal n (omega arith) (omega arith))))
    (cases_lt n 10))

field_back : (n : ℕ) → n < 2 ^ 32 → field_of (decimal n) ≡ Ok n
field_back n h =
    cond-true (plain_decimal (decimal n)) (small (digits_value 10 (decimal n))) (Err why.Field) (plain-decimal n h)
    ∙ (ap small (digits_value-decimal own n (omega arith)) ∙ cond-true (ltb n (2 ^ 32)) (Ok n) (Err why.TooLarge) (lt-ltb n (2 ^ 32) h))

fields_back : (fs : List ℕ) → AllByRecursion (λ n. n < 2 ^ 32) fs → fields_of (length fs) (map decimal fs) ≡ Ok fs
fields_back [] fit = refl
fields_back (f ∷ fs) fit =
    ap (λ (r : Result ℕ TextWhy). field_before r (fields_of (length fs) (map decimal fs))) (field_back f fit.0)
    ∙ ap (field_before (Ok f)) (fields_back fs fit.1)

-- a word and fields, written and taken apart
split-fields : (word : List ℕ) (fs : List ℕ) → after space word ≡ None → AllByRecursion (λ n. n < 2 ^ 32) fs → line_parts (word ++ flat_map field_text fs) ≡ word ∷ map decimal fs
split-fields word [] none fit = ap line_parts (append-nil word) ∙ split-whole space word none
split-fields word (f ∷ fs) none fit =
    split_at space word (decimal f ++ flat_map field_text fs) none
    ∙ ap (λ (ps : List (List ℕ)). word ∷ ps) (split-fields (decimal f) fs (digits-no-separator space (decimal f) (omega arith) (all_digits-decimal f fit.0)) fit.1)

no-end-fields : (fs : List ℕ) → AllByRecursion (λ n. n < 2 ^ 32) fs → after line_end (flat_map field_text fs) ≡ None
no-end-fields [] fit = refl
no-end-fields (f ∷ fs) fit =
    after-append line_end (decimal f) (flat_map field_text fs) (digits-no-separator line_end (decimal f) (omega arith) (all_digits-decimal f fit.0)) (no-end-fields fs fit.1)

verb-plain : (v : Verb) → (after space (verb_text v) ≡ None) × (after line_end (verb_text v) ≡ None) × (verb_named (verb_text v) ≡ Some v)
verb-plain verb.Start = (refl, refl, refl)
verb-plain verb.Load = (refl, refl, refl)
verb-plain verb.Store = (refl, refl, refl)
verb-plain verb.Squash = (refl, refl, refl)
verb-plain verb.Commit = (refl, refl, refl)
verb-plain verb.Replace = (refl, refl, refl)

turn-made : (t : Turn) → (field_count (verb_of t) ≡ length (fields_in t)) × (turn_with (verb_of t) (fields_in t) ≡ t)
turn-made (Start p) = (refl, refl)
turn-made (Load p a) = (refl, refl)
turn-made (Store p a w) = (refl, refl)
turn-made (Squash p) = (refl, refl)
turn-made (Commit p) = (refl, refl)
turn-made (Replace p a) = (refl, refl)

turn-back : (t : Turn) → Small t → turn_of (turn_text t) ≡ Ok t
turn-back t fit =
    let v = verb_of t in
    let fs = fields_in t in
    let plain = verb-plain v in
    let made = turn-made t in
    ap turn_of (by-fields t)
    ∙ (ap turn_of_parts (split-fields (verb_text v) fs plain.0 fit)
    ∙ (ap (λ (o : Option Verb). turn_of_verb o (map decimal fs)) plain.2
    ∙ (ap (λ (k : ℕ). turn_of_fields v (fields_of k (map decimal fs))) made.0
    ∙ (ap (turn_of_fields v) (fields_back fs fit) ∙ ap (λ (u : Turn). Ok u) made.1))))

no-end-turn : (t : Turn) → Small t → after line_end (turn_text t) ≡ None
no-end-turn t fit = ap (after line_end) (by-fields t) ∙ after-append line_end (verb_text (verb_of t)) (flat_map field_text (fields_in t)) (verb-plain (verb_of t)).1 (no-end-fields (fields_in t) fit)

lines-back : (at free : ℕ) (ts : List Turn) → AllByRecursion Small ts → length ts ≤ free → lines_read at free (text_lines (text_of ts)) ≡ whole_read ts
lines-back at free [] fit room = refl
lines-back at free (t ∷ ts) fit room =
    let line = turn_text t in
    let rest = text_of ts in
    let taken_apart : text_lines (text_of (t ∷ ts)) ≡ line ∷ text_lines rest =
    ap text_lines (append_assoc line (line_end ∷ []) rest) ∙ split_at line_end line rest (no-end-turn t fit.0) in
    let next = (at + length line) + 1 in
    ap (lines_read at free) taken_apart
    ∙ (lines_cons at free line rest
    ∙ (ap (λ (r : Result Turn TextWhy). line_read at free r (lines_read next (free - 1) (text_lines rest))) (turn-back t fit.0)
    ∙ (cond-true (ltb 0 free) _ _ (lt-ltb 0 free (omega arith))
    ∙ ap (turn_before t) (lines-back next (free - 1) ts fit.1 (omega arith)))))

pub text-back : (free : ℕ) (ts : List Turn) → AllByRecursion Small ts → length ts ≤ free → text_read free (text_of ts) ≡ whole_read ts
text-back free ts fit room = lines-back 0 free ts fit room
