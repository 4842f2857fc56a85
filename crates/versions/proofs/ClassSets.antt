-- The bits of a set of classes.
use Rattle.std.proofs.Common.{◌≡◌, ℕ, zero, suc, ◌-◌, ◌*◌, ◌/◌, ◌≢◌, ◌^◌, ◌%◌, ◌<◌, Bool, true, false, not, ◌&&◌, ◌||◌, eqb, max, min, bit_and, bit_or, w16, sym, refl, ap, ◌∙◌, ⊎_elim, arith}
use Rattle.std.specs.Int.{bit_at}
use Rattle.std.specs.Int.{trailing_zeros}
use Rattle.std.proofs.lemmas.Bool.{eq-eqb, ne_eqb, eqb-true, eqb-false, cases_eq}
use Rattle.std.proofs.lemmas.Nat.{and_le_r}
use Rattle.std.proofs.lemmas.Nat.Bits.{bit_at-lt, bit_at_or, bit_at_and, bit_at_set_same, bit_at_set_other, bit_at-trailing_zeros, bit_at-suc, bit_at-zero, bit_at_lowest}

-- a bit is set
abbrev pub set_in : ℕ → ℕ → Bool
set_in n i = eqb (bit_at n i) 1

one-max : (x y : ℕ) → x < 2 → y < 2 → eqb (max x y) 1 ≡ (eqb x 1 || eqb y 1)
one-max zero zero a b = refl
one-max zero (suc zero) a b = refl
one-max zero (suc (suc y)) a b = absurd (omega (arith, b))
one-max (suc zero) zero a b = refl
one-max (suc zero) (suc zero) a b = refl
one-max (suc zero) (suc (suc y)) a b = absurd (omega (arith, b))
one-max (suc (suc x)) y a b = absurd (omega (arith, a))

one-min : (x y : ℕ) → x < 2 → y < 2 → eqb (min x y) 1 ≡ (eqb x 1 && eqb y 1)
one-min zero zero a b = refl
one-min zero (suc zero) a b = refl
one-min zero (suc (suc y)) a b = absurd (omega (arith, b))
one-min (suc zero) zero a b = refl
one-min (suc zero) (suc zero) a b = refl
one-min (suc zero) (suc (suc y)) a b = absurd (omega (arith, b))
one-min (suc (suc x)) y a b = absurd (omega (arith, a))

pub set-or : (a b i : ℕ) → set_in (bit_or a b) i ≡ (set_in a i || set_in b i)
set-or a b i = ap (λ x. eqb x 1) (bit_at_or a b i) ∙ one-max (bit_at a i) (bit_at b i) (bit_at-lt a i) (bit_at-lt b i)

pub set-and : (a b i : ℕ) → set_in (bit_and a b) i ≡ (set_in a i && set_in b i)
set-and a b i = ap (λ x. eqb x 1) (bit_at_and a b i) ∙ one-min (bit_at a i) (bit_at b i) (bit_at-lt a i) (bit_at-lt b i)

pub set-inserted : (n c d : ℕ) → c < 16 → set_in (bit_or n (1 * 2 ^ c % 65536)) d ≡ (eqb d c || set_in n d)
set-inserted n c d within = ⊎_elim
    (λ (e : d ≡ c). ap (λ i. set_in (bit_or n (1 * 2 ^ c % 65536)) i) e ∙ (ap (λ x. eqb x 1) (bit_at_set_same w16 n c within) ∙ sym (ap (λ t. t || set_in n d) (eq-eqb d c e))))
    (λ (e : d ≡ c → ⊥). ap (λ x. eqb x 1) (bit_at_set_other w16 n c within d e) ∙ sym (ap (λ t. t || set_in n d) (ne_eqb d c e)))
    (cases_eq d c)

-- the lowest bit of a number that is not 0
abbrev pub lowest : ℕ → ℕ
lowest n = trailing_zeros w16 n

pub lowest_is : (n : ℕ) → 0 < n → n < 65536 → (lowest n < 16) × (set_in n (lowest n) ≡ true) × ((d : ℕ) → d < lowest n → set_in n d ≡ false)
lowest_is n some fits =
    let h = bit_at-trailing_zeros w16 n some fits in
    (h.0, eq-eqb (bit_at n (lowest n)) 1 h.1, λ d l. ap (λ x. eqb x 1) (h.2 d l))

-- ---- a number and the one before it: what both have is the number without its lowest bit, c

abbrev pub lowered : ℕ → ℕ
lowered n = bit_and n (n - 1)

lowered-at : (c n : ℕ) → bit_at n c ≡ 1 → ((d : ℕ) → d < c → bit_at n d ≡ 0) → (i : ℕ) → (i ≡ c → bit_at (lowered n) i ≡ 0) × (i ≢ c → bit_at (lowered n) i ≡ bit_at n i)
lowered-at zero n one low zero = (
  λ e. omega (arith, bit_at_and n (n - 1) 0, bit_at_lowest n, bit_at_lowest (n - 1), one),
  λ e. absurd (e refl),
)
lowered-at zero n one low (suc i) =
    let half : (n - 1) / 2 ≡ n / 2 = omega (arith, bit_at_lowest n, one) in (
      λ e. absurd (omega (arith, e)),
      λ e. bit_at_and n (n - 1) (suc i) ∙ (ap (λ x. min (bit_at n (suc i)) x) (bit_at-suc (n - 1) i ∙ (ap (λ x. bit_at x i) half ∙ sym (bit_at-suc n i))) ∙ omega arith),
    )
lowered-at (suc c) n one low zero = (
  λ e. absurd (omega (arith, e)),
  λ e. bit_at_and n (n - 1) 0 ∙ omega (arith, low 0 (omega arith)),
)
lowered-at (suc c) n one low (suc i) =
    let some : 0 < n = omega (arith, bit_at-zero (suc c), one, ap (λ x. bit_at x (suc c)) {x = n} {y = 0}) in
    let half : (n - 1) / 2 ≡ n / 2 - 1 = omega (arith, bit_at_lowest n, low 0 (omega arith), some) in
    let law = lowered-at c (n / 2) (sym (bit_at-suc n c) ∙ one) (λ d l. sym (bit_at-suc n d) ∙ low (suc d) (omega (arith, l))) i in
    let down : bit_at (lowered n) (suc i) ≡ bit_at (lowered (n / 2)) i =
    bit_at_and n (n - 1) (suc i) ∙ (ap (λ x. min x (bit_at (n - 1) (suc i))) (bit_at-suc n i) ∙ (ap (λ x. min (bit_at (n / 2) i) x) (bit_at-suc (n - 1) i ∙ ap (λ x. bit_at x i) half)
    ∙ sym (bit_at_and (n / 2) (n / 2 - 1) i))) in (
      λ e. down ∙ law.0 (omega (arith, e)),
      λ e. down ∙ (law.1 (λ s. e (omega (arith, s))) ∙ sym (bit_at-suc n i)),
    )

pub set-lowered : (n c d : ℕ) → set_in n c ≡ true → ((e : ℕ) → e < c → set_in n e ≡ false) → set_in (lowered n) d ≡ (not (eqb d c) && set_in n d)
set-lowered n c d one low =
    let none : (e : ℕ) → e < c → bit_at n e ≡ 0 = λ e l. omega (arith, bit_at-lt n e, eqb-false (bit_at n e) 1 (low e l)) in
    let law = lowered-at c n (eqb-true (bit_at n c) 1 one) none d in ⊎_elim
    (λ (e : d ≡ c). ap (λ x. eqb x 1) (law.0 e) ∙ sym (ap (λ t. not t && set_in n d) (eq-eqb d c e)))
    (λ (e : d ≢ c). ap (λ x. eqb x 1) (law.1 e) ∙ sym (ap (λ t. not t && set_in n d) (ne_eqb d c e)))
    (cases_eq d c)

pub lowered-less : (n : ℕ) → 0 < n → lowered n < n
lowered-less n some = omega (arith, and_le_r n (n - 1), some)
