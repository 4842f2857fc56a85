-- The sharers of an address: what their bits say of the versions that they are of.
use Rattle.std.proofs.Common.{◌≡◌, ℕ, zero, suc, ◌+◌, ◌-◌, ◌*◌, ◌/◌, ◌%◌, ◌^◌, ◌<◌, ◌≤◌, Bool, true, false, cond, ◌&&◌, ◌||◌, eqb, bit_and, bit_or, List, [], ◌∷◌, ◌++◌, map, length, get_or, drop, take, Some, None, w32, sym, refl, ap, ◌∙◌, subst, ⊎_elim, arith}
use Rattle.std.specs.Int.{bit_at, trailing_zeros}
use Rattle.std.proofs.Math.Nat.{div-div-eq-div-mul, div-eq_of_lt-le, div-le_self, pow-suc, mul_assoc, mul_comm}
use Rattle.std.proofs.Math.ListN.{get_or-eq_default}
use Rattle.std.specs.Option.{option_or}
use Rattle.std.proofs.lemmas.List.{get_or-take, length-take, get_or-map, get_or_push, get_or_append_left, length_push, drop_all, drop_more, length-drop}
use Rattle.std.proofs.lemmas.Nat.{pow-add, shl-shr, shl_whole}
use Rattle.std.proofs.lemmas.Bool.{eq-eqb, cases_eq, cases_lt, true≢false}
use Rattle.std.proofs.lemmas.Nat.Bits.{bit_at-lt, bit_at-zero, bit_at-suc, bit_at_lowest, bit_at_and, bit_at_ones, bit_at_ones_above, bit_at_above, bit_at-trailing_zeros}
use Rattle.versions.specs.declared.sharers.Sharers.{Sharers}
use Rattle.versions.specs.declared.version.Version.{Version}
use Rattle.versions.specs.Sharers.{SharersOf, bit_set, LastBelow, FirstFrom, owns_at, holds_at}
use Rattle.versions.specs.Tables.{last_that}
use Rattle.versions.specs.Versions.{no_version, is_own, is_held, share_of, squashed_by}
use Rattle.versions.proofs.ClassSets.{set-or, set-and}

-- ---- the bits below k, and those from k on

low-bit : (n k i : ℕ) → i < k → bit_set (bit_and n (2 ^ k - 1)) i ≡ bit_set n i
low-bit n k i h = ap (λ x. eqb x 1) (bit_at_and n (2 ^ k - 1) i ∙ omega (arith, bit_at_ones k i h, bit_at-lt n i))

high-bit : (n k i : ℕ) → bit_set (n / 2 ^ k) i ≡ bit_set n (k + i)
high-bit n k i = ap (λ x. eqb (x % 2) 1) (div-div-eq-div-mul n (2 ^ k) (2 ^ i) ∙ ap (λ x. n / x) (sym (pow-add 2 k i)))

top-bit : (n r : ℕ) → 2 ^ r ≤ n → n < 2 * 2 ^ r → bit_set n r ≡ true
top-bit n r low high =
    let one-is : n / 2 ^ r ≡ 1 = div-eq_of_lt-le (2 ^ r) (omega (arith, low)) (omega (arith, high)) in
    ap (λ x. eqb (x % 2) 1) one-is

pub last-none : (n k : ℕ) → bit_and n (2 ^ k - 1) ≡ 0 → LastBelow (bit_set n) k None
last-none n k none i h = sym (low-bit n k i h) ∙ (ap (λ m. bit_set m i) none ∙ ap (λ x. eqb x 1) (bit_at-zero i))

pub last-some : (n k r : ℕ) → 2 ^ r ≤ bit_and n (2 ^ k - 1) → bit_and n (2 ^ k - 1) < 2 * 2 ^ r → LastBelow (bit_set n) k (Some r)
last-some n k r low high =
    let e = bit_and n (2 ^ k - 1) in
    let inside : (i : ℕ) → k ≤ i → bit_at e i ≡ 0 = λ i h. bit_at_and n (2 ^ k - 1) i ∙ omega (arith, bit_at_ones_above k i h, bit_at-lt n i) in
    let top : bit_set e r ≡ true = top-bit e r low high in
    let under : r < k = ⊎_elim (λ (h : r < k). h) (λ (h : k ≤ r). absurd (true≢false (sym top ∙ ap (λ x. eqb x 1) (inside r h)))) (cases_lt r k) in
    (under, sym (low-bit n k r under) ∙ top, λ i above h. sym (low-bit n k i h) ∙ ap (λ x. eqb x 1) (bit_at_above e (suc r) i (subst (λ x. e < x) (sym (pow-suc 2 r)) (omega (arith, high))) above))

pub first-none : (n k : ℕ) → n / 2 ^ k ≡ 0 → FirstFrom (bit_set n) k None
first-none n k none i h =
    let on : k + (i - k) ≡ i = omega (arith, h) in
    ap (bit_set n) (sym on) ∙ (sym (high-bit n k (i - k)) ∙ (ap (λ m. bit_set m (i - k)) none ∙ ap (λ x. eqb x 1) (bit_at-zero (i - k))))

pub first-some : (n k : ℕ) → n < 2 ^ 32 → 0 < n / 2 ^ k → FirstFrom (bit_set n) k (Some (k + trailing_zeros w32 (n / 2 ^ k)))
first-some n k fits some =
    let later = n / 2 ^ k in
    let law = bit_at-trailing_zeros w32 later some (omega (arith, fits, div-le_self n (2 ^ k))) in
    let j = trailing_zeros w32 later in (
      omega arith,
      sym (high-bit n k j) ∙ eq-eqb (bit_at later j) 1 law.1,
      λ i h under.
          let on : k + (i - k) ≡ i = omega (arith, h) in
          ap (bit_set n) (sym on) ∙ (sym (high-bit n k (i - k)) ∙ ap (λ x. eqb x 1) (law.2 (i - k) (omega (arith, h, under)))),
    )

-- ---- of two flags, one that is known

and-false : (x : Bool) → (x && false) ≡ false
and-false true = refl
and-false false = refl

and-true : (x : Bool) → (x && true) ≡ x
and-true true = refl
and-true false = refl

or-false : (x : Bool) → (x || false) ≡ x
or-false true = refl
or-false false = refl

or-true : (x : Bool) → (x || true) ≡ true
or-true true = refl
or-true false = refl

-- ---- two bits for each place

pub half-even : (r : ℕ) → r % 2 ≡ 0 → 2 * (r / 2) ≡ r
half-even r even = omega (arith, even)

pub half-odd : (r : ℕ) → (r % 2 ≡ 0 → ⊥) → 2 * (r / 2) + 1 ≡ r
half-odd r odd = omega (arith, odd)

module _ (n : ℕ) (f g : ℕ → Bool) (low : (i : ℕ) → bit_set n (2 * i) ≡ f i) (high : (i : ℕ) → bit_set n (2 * i + 1) ≡ g i) where
  either : (r : ℕ) → bit_set n r ≡ true → (f (r / 2) || g (r / 2)) ≡ true
  either r set = ⊎_elim
      (λ (e : r % 2 ≡ 0). ap (λ x. x || g (r / 2)) (sym (low (r / 2)) ∙ (ap (bit_set n) (half-even r e) ∙ set)))
      (λ (e : r % 2 ≡ 0 → ⊥). ap (λ x. f (r / 2) || x) (sym (high (r / 2)) ∙ (ap (bit_set n) (half-odd r e) ∙ set)) ∙ or-true (f (r / 2)))
      (cases_eq (r % 2) 0)

  neither : (i : ℕ) → bit_set n (2 * i) ≡ false → bit_set n (2 * i + 1) ≡ false → (f i || g i) ≡ false
  neither i a b = ap (λ x. x || g i) (sym (low i) ∙ a) ∙ (sym (high i) ∙ b)

  -- the last place below k with one of the two, and the first from k on
  pub last-none-of : (k : ℕ) → LastBelow (bit_set n) (2 * k) None → LastBelow (λ i. f i || g i) k None
  last-none-of k none i h = neither i (none (2 * i) (omega (arith, h))) (none (2 * i + 1) (omega (arith, h)))

  pub last-of : (k r : ℕ) → LastBelow (bit_set n) (2 * k) (Some r) → LastBelow (λ i. f i || g i) k (Some (r / 2))
  last-of k r last = (omega (arith, last.0), either r last.1, λ i above h. neither i (last.2 (2 * i) (omega (arith, above)) (omega (arith, h))) (last.2 (2 * i + 1) (omega (arith, above)) (omega (arith, h))))

  pub first-none-of : (k : ℕ) → FirstFrom (bit_set n) (2 * k) None → FirstFrom (λ i. f i || g i) k None
  first-none-of k none i h = neither i (none (2 * i) (omega (arith, h))) (none (2 * i + 1) (omega (arith, h)))

  pub first-of : (k r : ℕ) → FirstFrom (bit_set n) (2 * k) (Some r) → FirstFrom (λ i. f i || g i) k (Some (r / 2))
  first-of k r first = (omega (arith, first.0), either r first.1, λ i h under. neither i (first.2 (2 * i) (omega (arith, h)) (omega (arith, under))) (first.2 (2 * i + 1) (omega (arith, h)) (omega (arith, under))))

-- the own words alone, of four places at most

own-mask : (i : ℕ) → bit_set 170 (2 * i) ≡ false
own-mask zero = refl
own-mask (suc zero) = refl
own-mask (suc (suc zero)) = refl
own-mask (suc (suc (suc zero))) = refl
own-mask (suc (suc (suc (suc i)))) = ap (λ x. eqb x 1) (bit_at_above 170 8 (2 * suc (suc (suc (suc i)))) (omega arith) (omega arith))

own-bits : (i : ℕ) → i < 4 → bit_set 170 (2 * i + 1) ≡ true
own-bits zero h = refl
own-bits (suc zero) h = refl
own-bits (suc (suc zero)) h = refl
own-bits (suc (suc (suc zero))) h = refl
own-bits (suc (suc (suc (suc i)))) h = absurd (omega (arith, h))

pub no-marks : (n i : ℕ) → bit_set (bit_and n 170) (2 * i) ≡ false
no-marks n i = set-and n 170 (2 * i) ∙ (ap (λ x. bit_set n (2 * i) && x) (own-mask i) ∙ and-false (bit_set n (2 * i)))

pub owns-left : (n : ℕ) (vs : List Version) → length vs ≤ 4 → ((i : ℕ) → bit_set n (2 * i + 1) ≡ owns_at vs i) → (i : ℕ) → bit_set (bit_and n 170) (2 * i + 1) ≡ owns_at vs i
owns-left n vs few owns i = set-and n 170 (2 * i + 1) ∙ (ap (λ x. x && bit_set 170 (2 * i + 1)) (owns i) ∙ ⊎_elim
    (λ (h : i < 4). ap (λ x. owns_at vs i && x) (own-bits i h) ∙ and-true (owns_at vs i))
    (λ (h : 4 ≤ i).
    let none : owns_at vs i ≡ false = ap is_own (get_or-eq_default vs no_version (omega (arith, few, h))) in
    ap (λ x. x && bit_set 170 (2 * i + 1)) none ∙ sym none)
    (cases_lt i 4))

-- ---- the first versions alone

module _ (f : Version → Bool) (none : f no_version ≡ false) (at : ℕ → ℕ) where
  pub flag-kept : (n k : ℕ) (vs : List Version) → ((i : ℕ) → i < k → at i < 2 * k) → ((i : ℕ) → k ≤ i → 2 * k ≤ at i) → ((i : ℕ) → bit_set n (at i) ≡ f (get_or vs i no_version)) → (i : ℕ)
      → bit_set (bit_and n (2 ^ (2 * k) - 1)) (at i) ≡ f (get_or (take k vs) i no_version)
  flag-kept n k vs under over so_far i = ⊎_elim
      (λ (h : i < k). low-bit n (2 * k) (at i) (under i h) ∙ (so_far i ∙ ap f (sym (get_or-take k vs i no_version h))))
      (λ (h : k ≤ i).
      let gone : bit_at (bit_and n (2 ^ (2 * k) - 1)) (at i) ≡ 0 = omega (arith, bit_at_and n (2 ^ (2 * k) - 1) (at i), bit_at_ones_above (2 * k) (at i) (over i h), bit_at-lt n (at i)) in
      ap (λ x. eqb x 1) gone ∙ (sym none ∙ ap f (sym (get_or-eq_default (take k vs) no_version (omega (arith, length-take k vs, h))))))
      (cases_lt i k)

-- ---- one version more

-- the bits of a number that is moved up by m places
double : (s m : ℕ) → s * 2 ^ suc m ≡ 2 * (s * 2 ^ m)
double s m = ap (λ x. s * x) (pow-suc 2 m) ∙ (sym (mul_assoc s (2 ^ m) 2) ∙ mul_comm (s * 2 ^ m) 2)

moved-below : (s m i : ℕ) → i < m → bit_at (s * 2 ^ m) i ≡ 0
moved-below s zero i h = absurd (omega (arith, h))
moved-below s (suc m) zero h = bit_at_lowest (s * 2 ^ suc m) ∙ omega (arith, double s m)
moved-below s (suc m) (suc i) h =
    let halved : s * 2 ^ suc m / 2 ≡ s * 2 ^ m = omega (arith, double s m) in
    bit_at-suc (s * 2 ^ suc m) i ∙ (ap (λ x. bit_at x i) halved ∙ moved-below s m i (omega (arith, h)))

moved-up : (s m j : ℕ) → bit_at (s * 2 ^ m) (m + j) ≡ bit_at s j
moved-up s m j = ap (λ x. x % 2) (ap (λ x. s * 2 ^ m / x) (pow-add 2 m j) ∙ (sym (div-div-eq-div-mul (s * 2 ^ m) (2 ^ m) (2 ^ j)) ∙ ap (λ x. x / 2 ^ j) (shl-shr s m)))

-- the two bits of a version
low-of : (m o : Bool) → bit_set (cond m 1 0 + cond o 2 0) 0 ≡ m
low-of true true = refl
low-of true false = refl
low-of false true = refl
low-of false false = refl

high-of : (m o : Bool) → bit_set (cond m 1 0 + cond o 2 0) 1 ≡ o
high-of true true = refl
high-of true false = refl
high-of false true = refl
high-of false false = refl

pub share-mark : (v : Version) → bit_set (share_of v) 0 ≡ v.mark
share-mark v = low-of v.mark (is_own v)

pub share-own : (v : Version) → bit_set (share_of v) 1 ≡ is_own v
share-own v = high-of v.mark (is_own v)

-- f is the mark or the own word, whose bit is bit b of a version's two
module _ (f : Version → Bool) (none : f no_version ≡ false) (b : ℕ) (two : b < 2) (is : (v : Version) → bit_set (share_of v) b ≡ f v) where
  pub flag-more : (n k s : ℕ) (vs : List Version) (v : Version) → k < 4 → s < 4 → length vs ≡ k → s ≡ share_of v
      → ((i : ℕ) → bit_set n (2 * i + b) ≡ f (get_or vs i no_version)) → (i : ℕ) → bit_set (bit_or n (s * 2 ^ (2 * k) % 4294967296)) (2 * i + b) ≡ f (get_or (vs ++ v ∷ []) i no_version)
  flag-more n k s vs v room fits long s-is so_far i =
      ap (λ m. bit_set (bit_or n m) (2 * i + b)) (shl_whole s 2 (2 * k) 32 fits (omega (arith, room)))
      ∙ (set-or n (s * 2 ^ (2 * k)) (2 * i + b) ∙ (ap (λ x. x || bit_set (s * 2 ^ (2 * k)) (2 * i + b)) (so_far i) ∙ cases))
    where
      cases : (f (get_or vs i no_version) || bit_set (s * 2 ^ (2 * k)) (2 * i + b)) ≡ f (get_or (vs ++ v ∷ []) i no_version)
      cases = ⊎_elim
          (λ (h : i < k).
          ap (λ x. f (get_or vs i no_version) || eqb x 1) (moved-below s (2 * k) (2 * i + b) (omega (arith, two, h)))
          ∙ (or-false (f (get_or vs i no_version)) ∙ ap f (sym (get_or_append_left vs (v ∷ []) no_version i (omega (arith, long, h))))))
          (λ (h : k ≤ i).
          let on : 2 * i + b ≡ 2 * k + (2 * (i - k) + b) = omega (arith, h) in
          ap (λ x. f x || bit_set (s * 2 ^ (2 * k)) (2 * i + b)) (get_or-eq_default vs no_version (omega (arith, long, h)))
          ∙ (ap (λ x. x || bit_set (s * 2 ^ (2 * k)) (2 * i + b)) none
          ∙ (ap (bit_set (s * 2 ^ (2 * k))) on ∙ (ap (λ x. eqb x 1) (moved-up s (2 * k) (2 * (i - k) + b)) ∙ here h))))
          (cases_lt i k)
        where
          here : k ≤ i → bit_set s (2 * (i - k) + b) ≡ f (get_or (vs ++ v ∷ []) i no_version)
          here h = ⊎_elim
              (λ (e : i ≡ k).
              let low : 2 * (i - k) + b ≡ b = omega (arith, e) in
              ap (bit_set s) low ∙ (ap (λ x. bit_set x b) s-is ∙ (is v ∙ ap f (sym (get_or_push vs v no_version i (omega (arith, long, e)))))))
              (λ (e : i ≡ k → ⊥).
              ap (λ x. eqb x 1) (bit_at_above s 2 (2 * (i - k) + b) fits (omega (arith, h, e)))
              ∙ (sym none ∙ ap f (sym (get_or-eq_default (vs ++ v ∷ []) no_version (omega (arith, long, h, e, length_push vs v))))))
              (cases_eq i k)

-- ---- what a store squashes

module _ (vs : List Version) where
  abbrev pub marked : ℕ → Bool
  marked i = (get_or vs i no_version).mark

  -- past the end there is neither mark nor own word
  past-mark : (i : ℕ) → length vs ≤ i → marked i ≡ false
  past-mark i h = ap (λ (v : Version). v.mark) (get_or-eq_default vs no_version h)

  pub squash-none : (k n : ℕ) → length vs - k ≤ n → FirstFrom marked k None → squashed_by (drop k vs) ≡ 0
  squash-none k zero h none = ap squashed_by (drop_all k vs (omega (arith, h)))
  squash-none k (suc n) h none = ⊎_elim
      (λ (l : k < length vs).
      ap squashed_by (drop_more vs k no_version l) ∙ (ap (λ t. cond t (suc (length (drop (k + 1) vs))) (cond (owns_at vs k) 0 (squashed_by (drop (k + 1) vs)))) (none k (omega arith))
      ∙ other (owns_at vs k) (squash-none (k + 1) n (omega (arith, h, l)) (λ i low. none i (omega (arith, low))))))
      (λ (l : length vs ≤ k). ap squashed_by (drop_all k vs l))
      (cases_lt k (length vs))
    where
      other : (t : Bool) → squashed_by (drop (k + 1) vs) ≡ 0 → cond t 0 (squashed_by (drop (k + 1) vs)) ≡ 0
      other true e = refl
      other false e = e

  -- a task with neither is passed by, and so are several
  pass-one : (k : ℕ) → k < length vs → marked k ≡ false → owns_at vs k ≡ false → squashed_by (drop k vs) ≡ squashed_by (drop (k + 1) vs)
  pass-one k l mark own =
      ap squashed_by (drop_more vs k no_version l)
      ∙ (ap (λ t. cond t (suc (length (drop (k + 1) vs))) (cond (owns_at vs k) 0 (squashed_by (drop (k + 1) vs)))) mark ∙ ap (λ t. cond t 0 (squashed_by (drop (k + 1) vs))) own)

  pass : (n k j : ℕ) → k + n ≡ j → j ≤ length vs → ((i : ℕ) → k ≤ i → i < j → marked i ≡ false) → ((i : ℕ) → k ≤ i → i < j → owns_at vs i ≡ false)
      → squashed_by (drop k vs) ≡ squashed_by (drop j vs)
  pass zero k j on room mark own = ap (λ (i : ℕ). squashed_by (drop i vs)) (omega (arith, on))
  pass (suc n) k j on room mark own =
      pass-one k (omega (arith, on, room)) (mark k (omega arith) (omega (arith, on))) (own k (omega arith) (omega (arith, on)))
      ∙ pass n (k + 1) j (omega (arith, on)) room (λ i a b. mark i (omega (arith, a)) b) (λ i a b. own i (omega (arith, a)) b)

  -- of the first mark from k on, where no own word lies before it
  pub squash-some : (k j : ℕ) → FirstFrom marked k (Some j) → ((i : ℕ) → k ≤ i → i < j → owns_at vs i ≡ false) → (j < length vs) × (squashed_by (drop k vs) ≡ length vs - j)
  squash-some k j first clear =
      let inside : j < length vs = ⊎_elim (λ (l : j < length vs). l) (λ (l : length vs ≤ j). absurd (true≢false (sym first.1 ∙ past-mark j l))) (cases_lt j (length vs)) in
      let rest = length-drop (j + 1) vs in (
        inside,
        pass (j - k) k j (omega (arith, first.0)) (omega (arith, inside)) first.2 clear ∙ (ap squashed_by (drop_more vs j no_version inside)
            ∙ (ap (λ t. cond t (suc (length (drop (j + 1) vs))) (cond (owns_at vs j) 0 (squashed_by (drop (j + 1) vs)))) first.1 ∙ omega (arith, rest, inside))),
      )

  -- of the first own word from k on, where no mark lies before it or on it
  pub squash-hidden : (k i : ℕ) → FirstFrom (owns_at vs) k (Some i) → ((d : ℕ) → k ≤ d → d ≤ i → marked d ≡ false) → squashed_by (drop k vs) ≡ 0
  squash-hidden k i first low =
      let inside : i < length vs = ⊎_elim (λ (l : i < length vs). l) (λ (l : length vs ≤ i). absurd (true≢false (sym first.1 ∙ ap is_own (get_or-eq_default vs no_version l)))) (cases_lt i (length vs)) in
      pass (i - k) k i (omega (arith, first.0)) (omega (arith, inside)) (λ d a b. low d a (omega (arith, b))) first.2 ∙ (ap squashed_by (drop_more vs i no_version inside)
      ∙ (ap (λ t. cond t (suc (length (drop (i + 1) vs))) (cond (owns_at vs i) 0 (squashed_by (drop (i + 1) vs)))) (low i first.0 (omega arith))
      ∙ ap (λ t. cond t 0 (squashed_by (drop (i + 1) vs))) first.1))

-- the first bit from that of place k on decides
pub shares-none : (vs : List Version) (s : Sharers) → SharersOf vs s → (k : ℕ) → FirstFrom (bit_set s.shares) (2 * k) None → squashed_by (drop k vs) ≡ 0
shares-none vs s is k none = squash-none vs k (length vs) (omega arith) (λ i h. sym (is.marks i) ∙ none (2 * i) (omega (arith, h)))

pub shares-mark : (vs : List Version) (s : Sharers) → SharersOf vs s → (k r : ℕ) → r % 2 ≡ 0 → FirstFrom (bit_set s.shares) (2 * k) (Some r)
    → (r / 2 < length vs) × (squashed_by (drop k vs) ≡ length vs - r / 2)
shares-mark vs s is k r even first =
    squash-some vs k (r / 2)
    (omega (arith, first.0), sym (is.marks (r / 2)) ∙ (ap (bit_set s.shares) (half-even r even) ∙ first.1), λ i h under. sym (is.marks i) ∙ first.2 (2 * i) (omega (arith, h)) (omega (arith, under)))
    (λ i h under. sym (is.owns i) ∙ first.2 (2 * i + 1) (omega (arith, h)) (omega (arith, under)))

pub shares-own : (vs : List Version) (s : Sharers) → SharersOf vs s → (k r : ℕ) → (r % 2 ≡ 0 → ⊥) → FirstFrom (bit_set s.shares) (2 * k) (Some r) → squashed_by (drop k vs) ≡ 0
shares-own vs s is k r odd first =
    squash-hidden vs k (r / 2)
    (omega (arith, first.0), sym (is.owns (r / 2)) ∙ (ap (bit_set s.shares) (half-odd r odd) ∙ first.1), λ i h under. sym (is.owns i) ∙ first.2 (2 * i + 1) (omega (arith, h)) (omega (arith, under)))
    (λ i h under. sym (is.marks i) ∙ first.2 (2 * i) (omega (arith, h)) (omega (arith, under, odd)))

-- ---- a place, and the processor there

last-that-none : (f : ℕ → Bool) (ps : List ℕ) (k : ℕ) → k ≤ length ps → ((i : ℕ) → i < k → f (get_or ps i 0) ≡ false) → last_that f (take k ps) ≡ None
last-that-none f ps zero h none = refl
last-that-none f [] (suc k) h none = refl
last-that-none f (p ∷ ps) (suc k) h none =
    ap (λ o. option_or o (cond (f p) (Some p) None)) (last-that-none f ps k (omega (arith, h)) (λ i l. none (suc i) (omega (arith, l))))
    ∙ ap (λ t. cond t (Some p) None) (none 0 (omega arith))

last-that-some : (f : ℕ → Bool) (ps : List ℕ) (k j : ℕ) → k ≤ length ps → j < k → f (get_or ps j 0) ≡ true → ((i : ℕ) → j < i → i < k → f (get_or ps i 0) ≡ false)
    → last_that f (take k ps) ≡ Some (get_or ps j 0)
last-that-some f ps zero j h l here later = absurd (omega (arith, l))
last-that-some f [] (suc k) j h l here later = absurd (omega (arith, h))
last-that-some f (p ∷ ps) (suc k) zero h l here later =
    ap (λ o. option_or o (cond (f p) (Some p) None)) (last-that-none f ps k (omega (arith, h)) (λ i m. later (suc i) (omega arith) (omega (arith, m))))
    ∙ ap (λ t. cond t (Some p) None) here
last-that-some f (p ∷ ps) (suc k) (suc j) h l here later =
    ap (λ o. option_or o (cond (f p) (Some p) None)) (last-that-some f ps k j (omega (arith, h)) (omega (arith, l)) here (λ i a m. later (suc i) (omega (arith, a)) (omega (arith, m))))

pub own-of : (f : ℕ → Version) (ps : List ℕ) (i : ℕ) → i < length ps → owns_at (map f ps) i ≡ is_own (f (get_or ps i 0))
own-of f ps i l = ap is_own (get_or-map f ps i 0 no_version l)

pub nearest-none : (f : ℕ → Version) (ps : List ℕ) (k : ℕ) → k ≤ length ps → LastBelow (owns_at (map f ps)) k None → None ≡ last_that (λ q. is_own (f q)) (take k ps)
nearest-none f ps k h none = sym (last-that-none (λ q. is_own (f q)) ps k h (λ i l. sym (own-of f ps i (omega (arith, l, h))) ∙ none i l))

pub nearest-some : (f : ℕ → Version) (ps : List ℕ) (k j : ℕ) → k ≤ length ps → LastBelow (owns_at (map f ps)) k (Some j) → Some (get_or ps j 0) ≡ last_that (λ q. is_own (f q)) (take k ps)
nearest-some f ps k j h last =
    sym (last-that-some (λ q. is_own (f q)) ps k j h last.0 (sym (own-of f ps j (omega (arith, last.0, h))) ∙ last.1) (λ i a l. sym (own-of f ps i (omega (arith, l, h))) ∙ last.2 i a l))

-- who holds or has an own word is one of them
pub holds-inside : (vs : List Version) (i : ℕ) → holds_at vs i ≡ true → i < length vs
holds-inside vs i h = ⊎_elim (λ (l : i < length vs). l) (λ (l : length vs ≤ i). absurd (true≢false (sym h ∙ ap is_held (get_or-eq_default vs no_version l)))) (cases_lt i (length vs))

pub owns-inside : (vs : List Version) (i : ℕ) → owns_at vs i ≡ true → i < length vs
owns-inside vs i h = ⊎_elim (λ (l : i < length vs). l) (λ (l : length vs ≤ i). absurd (true≢false (sym h ∙ ap is_own (get_or-eq_default vs no_version l)))) (cases_lt i (length vs))
