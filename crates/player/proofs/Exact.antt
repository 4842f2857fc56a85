-- What is read is just what would be written.
use Rattle.std.proofs.Common.{◌≡◌, ℕ, zero, suc, ◌+◌, ◌-◌, ◌^◌, ◌<◌, Bool, true, false, cond, not, eqb, ltb, List, [], ◌∷◌, ◌++◌, map, length, get_or, take, Some, None, Ok, Err, decimal, Option, Result, sym, refl, ap, ◌∙◌, subst, arith, MatchResult}
use Rattle.std.specs.List.{flat_map, join_with_byte}
use Rattle.std.specs.Str.Parse.{digits_value}
use Rattle.std.specs.Str.{all_ascii_digits, bytes_eq}
use Rattle.std.proofs.lemmas.Fmt.{decimal-digits_value}
use Rattle.std.proofs.lemmas.Slice.Eq.{bytes_eq-Decides}
use Rattle.std.proofs.lemmas.List.{append_assoc, append-nil, length-append, take_at}
use Rattle.std.proofs.lemmas.List.Splits.{join_with_byte-slice_split}
use Rattle.std.proofs.lemmas.Bool.{and_parts, not-true, eqb-false, ltb-true}
use Rattle.versions.specs.declared.turn.Turn.{Turn}
use Rattle.versions.specs.Turns.{turn_text}
use Rattle.player.specs.declared.fault.ListFault.TheVariants.{Full}
use Rattle.player.specs.declared.fault.TextWhy.{TextWhy}
use Rattle.player.specs.declared.fault.TextWhy.TheVariants as why
use Rattle.player.specs.declared.verb.Verb.{Verb}
use Rattle.player.specs.declared.verb.Verb.TheVariants as verb
use Rattle.player.specs.Faults.{TextFault}
use Rattle.player.specs.Fields.{plain_decimal, small, field_of}
use Rattle.player.specs.Lines.{field_before, fields_of, turn_of_fields, turn_of_verb, turn_of_parts, turn_of, unfinished}
use Rattle.player.specs.Splits.{line_end, space, text_lines, line_parts}
use Rattle.player.specs.Text.{Reading, refused_at, turn_before, line_read, last_read, lines_read, text_read}
use Rattle.player.specs.Verbs.{verbs, verb_text, named_in, verb_named, field_count, turn_with}
use Rattle.player.specs.Writing.{line_of, text_of}
use Rattle.player.specs.Canonical.{Exact}
use Rattle.player.proofs.RoundTrip.{own, field_text, by-fields}

-- a field that is read is its number in decimal
plain-parts : (ds : List ℕ) → plain_decimal ds ≡ true → (all_ascii_digits ds ≡ true) × (0 < length ds) × (get_or ds 0 0 ≡ 48 → length ds ≡ 1)
plain-parts [] plain = let z : ◌≡◌ {A = ℕ} 0 1 = cc in absurd (omega arith)
plain-parts (d ∷ []) plain = (plain, omega arith, λ e. refl)
plain-parts (d ∷ e ∷ ds) plain =
    let both = and_parts (not (eqb d 48)) (all_ascii_digits (d ∷ e ∷ ds)) plain in
    (both.1, omega arith, λ q. absurd (eqb-false d 48 (not-true (eqb d 48) both.0) q))

field-exact : (part : List ℕ) (n : ℕ) → field_of part ≡ Ok n → part ≡ decimal n
field-exact part n is = go (plain_decimal part) refl is
  where
    go : (u : Bool) → plain_decimal part ≡ u → ◌≡◌ {A = Result ℕ TextWhy} (cond u (small (digits_value 10 part)) (Err why.Field)) (Ok n) → part ≡ decimal n
    go false plain q = let z : ◌≡◌ {A = ℕ} 0 1 = cc in absurd (omega arith)
    go true plain q = fits (ltb (digits_value 10 part) (2 ^ 32)) refl q
      where
        fits : (w : Bool) → ltb (digits_value 10 part) (2 ^ 32) ≡ w → ◌≡◌ {A = Result ℕ TextWhy} (cond w (Ok (digits_value 10 part)) (Err why.TooLarge)) (Ok n) → part ≡ decimal n
        fits false less r = let z : ◌≡◌ {A = ℕ} 0 1 = cc in absurd (omega arith)
        fits true less r =
            let parts = plain-parts part plain in
            let same : digits_value 10 part ≡ n = cc in
            sym (decimal-digits_value own part parts.0 parts.1 parts.2 (omega (arith, ltb-true (digits_value 10 part) (2 ^ 32) less))) ∙ ap decimal same

fields-exact : (k : ℕ) (ps : List (List ℕ)) (fs : List ℕ) → fields_of k ps ≡ Ok fs → (ps ≡ map decimal fs) × (length fs ≡ k)
fields-exact zero [] fs is = let none : fs ≡ [] = cc in subst (λ (l : List ℕ). (◌≡◌ {A = List (List ℕ)} [] (map decimal l)) × (length l ≡ 0)) (sym none) (refl, refl)
fields-exact zero (p ∷ ps) fs is = let z : ◌≡◌ {A = ℕ} 0 1 = cc in absurd (omega arith)
fields-exact (suc k) [] fs is = let z : ◌≡◌ {A = ℕ} 0 1 = cc in absurd (omega arith)
fields-exact (suc k) (p ∷ ps) fs is = go (field_of p) (fields_of k ps) refl refl is (fields-exact k ps)
  where
    go : (r : Result ℕ TextWhy) (q : Result (List ℕ) TextWhy) → field_of p ≡ r → fields_of k ps ≡ q → field_before r q ≡ Ok fs
        → ((gs : List ℕ) → fields_of k ps ≡ Ok gs → (ps ≡ map decimal gs) × (length gs ≡ k)) → (p ∷ ps ≡ map decimal fs) × (length fs ≡ suc k)
    go (Err e) q r-is q-is h more = let z : ◌≡◌ {A = ℕ} 0 1 = cc in absurd (omega arith)
    go (Ok f) (Err e) r-is q-is h more = let z : ◌≡◌ {A = ℕ} 0 1 = cc in absurd (omega arith)
    go (Ok f) (Ok gs) r-is q-is h more =
        let rest = more gs q-is in
        let fs-is : f ∷ gs ≡ fs = cc in
        subst (λ (l : List ℕ). (p ∷ ps ≡ map decimal l) × (length l ≡ suc k)) fs-is (
          ap (λ (l : List ℕ). l ∷ ps) (field-exact p f r-is) ∙ ap (λ (ls : List (List ℕ)). decimal f ∷ ls) rest.0,
          ap suc rest.1,
        )

-- a word that names a verb is how the verb is written
named-exact : (vs : List Verb) (word : List ℕ) (v : Verb) → named_in vs word ≡ Some v → word ≡ verb_text v
named-exact [] word v is = let z : ◌≡◌ {A = ℕ} 0 1 = cc in absurd (omega arith)
named-exact (u ∷ us) word v is = go (bytes_eq word (verb_text u)) refl is (named-exact us word v)
  where
    go : (b : Bool) → bytes_eq word (verb_text u) ≡ b → cond b (Some u) (named_in us word) ≡ Some v → (named_in us word ≡ Some v → word ≡ verb_text v) → word ≡ verb_text v
    go true same q more = let u-is : u ≡ v = cc in (bytes_eq-Decides word (verb_text u)).0 same ∙ ap verb_text u-is
    go false other q more = more q

-- the line of a turn that was made of as many fields as its verb has
list-of-one : (fs : List ℕ) → length fs ≡ 1 → get_or fs 0 0 ∷ [] ≡ fs
list-of-one [] long = absurd (omega arith)
list-of-one (x ∷ []) long = refl
list-of-one (x ∷ y ∷ ys) long = absurd (omega arith)

list-of-two : (fs : List ℕ) → length fs ≡ 2 → get_or fs 0 0 ∷ get_or fs 1 0 ∷ [] ≡ fs
list-of-two [] long = absurd (omega arith)
list-of-two (x ∷ fs) long = ap (λ (l : List ℕ). x ∷ l) (list-of-one fs (omega arith))

list-of-three : (fs : List ℕ) → length fs ≡ 3 → get_or fs 0 0 ∷ get_or fs 1 0 ∷ get_or fs 2 0 ∷ [] ≡ fs
list-of-three [] long = absurd (omega arith)
list-of-three (x ∷ fs) long = ap (λ (l : List ℕ). x ∷ l) (list-of-two fs (omega arith))

turn-text : (v : Verb) (fs : List ℕ) → length fs ≡ field_count v → turn_text (turn_with v fs) ≡ verb_text v ++ flat_map field_text fs
turn-text verb.Start fs long = by-fields (turn_with verb.Start fs) ∙ ap (λ (l : List ℕ). verb_text verb.Start ++ flat_map field_text l) (list-of-one fs long)
turn-text verb.Load fs long = by-fields (turn_with verb.Load fs) ∙ ap (λ (l : List ℕ). verb_text verb.Load ++ flat_map field_text l) (list-of-two fs long)
turn-text verb.Store fs long = by-fields (turn_with verb.Store fs) ∙ ap (λ (l : List ℕ). verb_text verb.Store ++ flat_map field_text l) (list-of-three fs long)
turn-text verb.Squash fs long = by-fields (turn_with verb.Squash fs) ∙ ap (λ (l : List ℕ). verb_text verb.Squash ++ flat_map field_text l) (list-of-one fs long)
turn-text verb.Commit fs long = by-fields (turn_with verb.Commit fs) ∙ ap (λ (l : List ℕ). verb_text verb.Commit ++ flat_map field_text l) (list-of-one fs long)
turn-text verb.Replace fs long = by-fields (turn_with verb.Replace fs) ∙ ap (λ (l : List ℕ). verb_text verb.Replace ++ flat_map field_text l) (list-of-two fs long)

join-fields : (word : List ℕ) (fs : List ℕ) → join_with_byte space (word ∷ map decimal fs) ≡ word ++ flat_map field_text fs
join-fields word [] = sym (append-nil word)
join-fields word (f ∷ fs) = ap (λ (l : List ℕ). word ++ space ∷ l) (join-fields (decimal f) fs)

parts-exact : (ps : List (List ℕ)) (t : Turn) → turn_of_parts ps ≡ Ok t → join_with_byte space ps ≡ turn_text t
parts-exact [] t is = let z : ◌≡◌ {A = ℕ} 0 1 = cc in absurd (omega arith)
parts-exact (word ∷ parts) t is = go (verb_named word) refl is
  where
    go : (o : Option Verb) → verb_named word ≡ o → turn_of_verb o parts ≡ Ok t → join_with_byte space (word ∷ parts) ≡ turn_text t
    go None named q = let z : ◌≡◌ {A = ℕ} 0 1 = cc in absurd (omega arith)
    go (Some v) named q = made (fields_of (field_count v) parts) refl q
      where
        made : (r : Result (List ℕ) TextWhy) → fields_of (field_count v) parts ≡ r → turn_of_fields v r ≡ Ok t → join_with_byte space (word ∷ parts) ≡ turn_text t
        made (Err e) r-is h = let z : ◌≡◌ {A = ℕ} 0 1 = cc in absurd (omega arith)
        made (Ok fs) r-is h =
            let fields = fields-exact (field_count v) parts fs r-is in
            let t-is : turn_with v fs ≡ t = cc in
            ap (λ (ls : List (List ℕ)). join_with_byte space (word ∷ ls)) fields.0
            ∙ (join-fields word fs
            ∙ (ap (λ (l : List ℕ). l ++ flat_map field_text fs) (named-exact verbs word v named) ∙ (sym (turn-text v fs fields.1) ∙ ap turn_text t-is)))

turn-exact : (line : List ℕ) (t : Turn) → turn_of line ≡ Ok t → line ≡ turn_text t
turn-exact line t is = sym (join_with_byte-slice_split space line) ∙ parts-exact (line_parts line) t is

-- the text s, from a place on, is the lines of the turns that were read, and then, after a fault, what begins at its place
record ExactFrom (at : ℕ) (s : List ℕ) (r : Reading) : Type 0 where
  left : List ℕ
  whole : s ≡ text_of r.turns ++ left
  ends : MatchResult r.answer (λ _. left ≡ []) (λ (f : TextFault). f.place ≡ at + length (text_of r.turns))

stops-here : (at : ℕ) (s : List ℕ) (e : TextWhy) → ExactFrom at s (refused_at at e)
stops-here at s e = record { left = s; whole = refl; ends = omega arith }

-- one line more
line_before : (at : ℕ) (line s : List ℕ) (t : Turn) (r : Reading) → line ≡ turn_text t → ExactFrom ((at + length line) + 1) s r → ExactFrom at (line ++ line_end ∷ s) (turn_before t r)
line_before at line s t r line-is exact = record { left = exact.left; whole = whole; ends = go r.answer exact.ends }
  where
    whole : line ++ line_end ∷ s ≡ text_of (t ∷ r.turns) ++ exact.left
    whole =
        ap (λ (l : List ℕ). l ++ line_end ∷ s) line-is
        ∙ (ap (λ (l : List ℕ). turn_text t ++ line_end ∷ l) exact.whole
        ∙ (sym (append_assoc (turn_text t) (line_end ∷ []) (text_of r.turns ++ exact.left)) ∙ sym (append_assoc (line_of t) (text_of r.turns) exact.left)))

    long : length (text_of (t ∷ r.turns)) ≡ (length line + 1) + length (text_of r.turns)
    long =
        length-append (line_of t) (text_of r.turns)
        ∙ ap (λ (k : ℕ). k + length (text_of r.turns)) (length-append (turn_text t) (line_end ∷ []) ∙ ap (λ (l : List ℕ). length l + 1) (sym line-is))

    go : (a : Result (Unit {0}) TextFault) → MatchResult a (λ _. exact.left ≡ []) (λ (f : TextFault). f.place ≡ ((at + length line) + 1) + length (text_of r.turns))
        → MatchResult a (λ _. exact.left ≡ []) (λ (f : TextFault). f.place ≡ at + length (text_of (t ∷ r.turns)))
    go (Ok u) h = h
    go (Err f) h = omega (arith, h, long)

last-exact : (at : ℕ) (s : List ℕ) → ExactFrom at s (last_read at s)
last-exact at [] = record { left = []; whole = refl; ends = refl }
last-exact at (b ∷ bs) = stops-here at (b ∷ bs) (unfinished (turn_of (b ∷ bs)))

lines-exact : (at free : ℕ) (ps : List (List ℕ)) → ExactFrom at (join_with_byte line_end ps) (lines_read at free ps)
lines-exact at free [] = record { left = []; whole = refl; ends = refl }
lines-exact at free (line ∷ []) = last-exact at line
lines-exact at free (line ∷ next ∷ lines) = go (turn_of line) refl (lines-exact ((at + length line) + 1) (free - 1) (next ∷ lines))
  where
    s : List ℕ
    s = line ++ line_end ∷ join_with_byte line_end (next ∷ lines)

    more : Reading
    more = lines_read ((at + length line) + 1) (free - 1) (next ∷ lines)

    go : (r : Result Turn TextWhy) → turn_of line ≡ r → ExactFrom ((at + length line) + 1) (join_with_byte line_end (next ∷ lines)) more
        → ExactFrom at s (line_read at free r more)
    go (Err e) is ih = stops-here at s e
    go (Ok t) is ih = room (ltb 0 free)
      where
        room : (b : Bool) → ExactFrom at s (cond b (turn_before t more) (refused_at at (why.List Full)))
        room true = line_before at line (join_with_byte line_end (next ∷ lines)) t more (turn-exact line t is) ih
        room false = stops-here at s (why.List Full)

pub text-exact : (free : ℕ) (text : List ℕ) → Exact text (text_read free text)
text-exact free text = go (subst (λ (s : List ℕ). ExactFrom 0 s (text_read free text)) (join_with_byte-slice_split line_end text) (lines-exact 0 free (text_lines text)))
  where
    go : ExactFrom 0 text (text_read free text) → Exact text (text_read free text)
    go exact = by (text_read free text).answer exact.ends
      where
        by : (a : Result (Unit {0}) TextFault) → MatchResult a (λ _. exact.left ≡ []) (λ (f : TextFault). f.place ≡ 0 + length (text_of (text_read free text).turns))
            → MatchResult a (λ _. text ≡ text_of (text_read free text).turns) (λ (f : TextFault). take f.place text ≡ text_of (text_read free text).turns)
        by (Ok u) none = exact.whole ∙ (ap (λ (l : List ℕ). text_of (text_read free text).turns ++ l) none ∙ append-nil (text_of (text_read free text).turns))
        by (Err f) place = ap (take f.place) exact.whole ∙ take_at (text_of (text_read free text).turns) exact.left f.place (omega (arith, place))
