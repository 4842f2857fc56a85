-- Reading a number in plain decimal.
use Rattle.std.proofs.Common.{◌≡◌, ℕ, ◌+◌, ◌-◌, ◌*◌, ◌^◌, ◌<◌, ◌≤◌, Bool, true, ◌&&◌, ltb, leb, List, [], ◌∷◌, length, get_or, drop, Ok, Err, Result, sym, refl, ap, ◌∙◌, arith}
use Rattle.std.specs.List.{list_all}
use Rattle.std.specs.Str.Parse.{digits_value, digits_value_after}
use Rattle.std.specs.Char.{is_ascii_digit, digit_value}
use Rattle.std.specs.Str.{all_ascii_digits}
use Rattle.std.proofs.lemmas.List.{drop_more, drop_all}
use Rattle.std.proofs.lemmas.Bool.{and_parts, leb-true, lt-ltb, le-ltb, cond-true, cond-false}
use Rattle.std.proofs.lemmas.Str.Parse.{IsNumeralModel, numerals_by_value, tells_all_ascii_digits}
use Rattle.player.specs.declared.fault.TextWhy.{TextWhy}
use Rattle.player.specs.declared.fault.TextWhy.TheVariants.{TooLarge}
use Rattle.player.specs.Fields.{small}

pub own : IsNumeralModel (λ ds. all_ascii_digits ds ≡ true) (digits_value 10)
own = numerals_by_value (λ ds. all_ascii_digits ds ≡ true) tells_all_ascii_digits

pub list_all-digits : (ds : List ℕ) → list_all is_ascii_digit ds ≡ all_ascii_digits ds
list_all-digits [] = refl
list_all-digits (d ∷ ds) = ap (λ (t : Bool). is_ascii_digit d && t) (list_all-digits ds)

-- one digit more
pub digit-first : (part : List ℕ) (i : ℕ) → i < length part → all_ascii_digits (drop i part) ≡ true
    → (48 ≤ get_or part i 0) × (get_or part i 0 ≤ 57) × (all_ascii_digits (drop (i + 1) part) ≡ true)
digit-first part i h digits =
    let d = get_or part i 0 in
    let both = and_parts (is_ascii_digit d) (all_ascii_digits (drop (i + 1) part)) (sym (ap all_ascii_digits (drop_more part i 0 h)) ∙ digits) in
    let edges = and_parts (leb 48 d) (leb d 57) both.0 in
    (leb-true 48 d edges.0, leb-true d 57 edges.1, both.1)

digit_value-is : (d : ℕ) → 48 ≤ d → d ≤ 57 → digit_value d ≡ d - 48
digit_value-is d low high = cond-false (ltb d 48) _ _ (le-ltb d 48 low) ∙ cond-true (ltb d 58) _ _ (lt-ltb d 58 (omega arith))

pub value-next : (part : List ℕ) (i n m : ℕ) → i < length part → 48 ≤ get_or part i 0 → get_or part i 0 ≤ 57 → m ≡ n * 10 + (get_or part i 0 - 48)
    → digits_value 10 part ≡ digits_value_after 10 n (drop i part) → digits_value 10 part ≡ digits_value_after 10 m (drop (i + 1) part)
value-next part i n m h low high m-is so_far =
    so_far ∙ (ap (digits_value_after 10 n) (drop_more part i 0 h)
    ∙ ap (λ (k : ℕ). digits_value_after 10 k (drop (i + 1) part)) (ap (λ (k : ℕ). n * 10 + k) (digit_value-is (get_or part i 0) low high) ∙ sym m-is))

-- further digits make a number no smaller
value_after-ge : (n : ℕ) (ds : List ℕ) → n ≤ digits_value_after 10 n ds
value_after-ge n [] = omega arith
value_after-ge n (d ∷ ds) = omega (arith, value_after-ge (n * 10 + digit_value d) ds)

pub small-not : (v n : ℕ) (ds : List ℕ) → v ≡ digits_value_after 10 n ds → 2 ^ 32 ≤ n → ◌≡◌ {A = Result ℕ TextWhy} (Err TooLarge) (small v)
small-not v n ds is large = sym (cond-false (ltb v (2 ^ 32)) (Ok v) (Err TooLarge) (le-ltb v (2 ^ 32) (omega (arith, value_after-ge n ds))))

pub small_is : (part : List ℕ) (i n : ℕ) → length part ≤ i → n < 2 ^ 32 → digits_value 10 part ≡ digits_value_after 10 n (drop i part) → Ok n ≡ small (digits_value 10 part)
small_is part i n h less so_far =
    let is : digits_value 10 part ≡ n = so_far ∙ ap (digits_value_after 10 n) (drop_all i part h) in
    sym (ap small is ∙ cond-true (ltb n (2 ^ 32)) (Ok n) (Err TooLarge) (lt-ltb n (2 ^ 32) less))
