-- Going through the tasks in order: the nearest earlier version, and whom invalidations reach.
use Rattle.std.proofs.Common.{◌≡◌, ℕ, ◌+◌, ◌*◌, ◌%◌, ◌^◌, ◌<◌, ◌≤◌, Bool, true, false, cond, ◌&&◌, leb, ltb, min, zero, suc, ◌-◌, ◌++◌, List, [], ◌∷◌, length, map, get_or, take, drop, None, Some, ⊎_elim, sym, refl, ap, ◌∙◌, arith}
use mir.Val.{bool_byte}
use Rattle.std.proofs.lemmas.Bool.{cases_lt, le-leb, lt-leb, lt-ltb, le-ltb}
use Rattle.std.proofs.lemmas.List.{take_all, take-take, drop-take, take_more, get_or-drop, get_or-map, length-drop, length-map}
use Rattle.std.proofs.Math.Nat.{suc-add}
use Rattle.std.proofs.Math.Pow.{pow_mono}
use Rattle.versions.specs.declared.version.Version.{Version}
use Rattle.versions.specs.Sharers.{FirstFrom, owns_at}
use Rattle.versions.specs.Versions.{no_version, is_own}
use Rattle.versions.proofs.Sharing.{own-of, owns-inside}
use Rattle.snooping.specs.Report.{reached, powers}

-- the tasks that are reached are the first of the later ones: all, where none has an own word; up to the first with one, and that one if it has a
-- mark
pub reached-all : (f : ℕ → Version) (xs : List ℕ) → ((i : ℕ) → i < length xs → is_own (f (get_or xs i 0)) ≡ false) → reached f xs ≡ xs
reached-all f [] none = refl
reached-all f (x ∷ xs) none =
    ap (λ (t : Bool). cond t (cond (f x).mark (x ∷ []) []) (x ∷ reached f xs)) (none 0 (omega arith))
    ∙ ap (λ (l : List ℕ). x ∷ l) (reached-all f xs (λ i h. none (suc i) (omega (arith, h))))

pub reached-to : (f : ℕ → Version) (xs : List ℕ) (j : ℕ) → j < length xs → ((i : ℕ) → i < j → is_own (f (get_or xs i 0)) ≡ false) → is_own (f (get_or xs j 0)) ≡ true
    → reached f xs ≡ take (j + cond (f (get_or xs j 0)).mark 1 0) xs
reached-to f [] j h none own = absurd (omega (arith, h))
reached-to f (x ∷ xs) zero h none own = ap (λ (t : Bool). cond t (cond (f x).mark (x ∷ []) []) (x ∷ reached f xs)) own ∙ marked (f x).mark
  where
    marked : (t : Bool) → cond t (x ∷ []) [] ≡ take (0 + cond t 1 0) (x ∷ xs)
    marked true = refl
    marked false = refl
reached-to f (x ∷ xs) (suc j) h none own =
    ap (λ (t : Bool). cond t (cond (f x).mark (x ∷ []) []) (x ∷ reached f xs)) (none 0 (omega arith))
    ∙ (ap (λ (l : List ℕ). x ∷ l) (reached-to f xs j (omega (arith, h)) (λ i l. none (suc i) (omega (arith, l))) own)
    ∙ ap (λ (n : ℕ). take n (x ∷ xs)) (sym (suc-add j (cond (f (get_or xs j 0)).mark 1 0))))

-- of the later ones from place k on, by the first owner among them
module _ (f : ℕ → Version) (ps : List ℕ) (k : ℕ) (le : k ≤ length ps) where
  there : (i : ℕ) → k + i < length ps → is_own (f (get_or (drop k ps) i 0)) ≡ owns_at (map f ps) (k + i)
  there i h = ap (λ (q : ℕ). is_own (f q)) (get_or-drop k ps i 0) ∙ sym (own-of f ps (k + i) h)

  pub reached-none : FirstFrom (owns_at (map f ps)) k None → reached f (drop k ps) ≡ take (length ps - k) (drop k ps)
  reached-none none =
      reached-all f (drop k ps) (λ i h. there i (omega (arith, h, length-drop k ps)) ∙ none (k + i) (omega arith))
      ∙ sym (take_all (length ps - k) (drop k ps) (omega (arith, length-drop k ps)))

  pub reached-some : (j : ℕ) (m : Bool) → FirstFrom (owns_at (map f ps)) k (Some j) → m ≡ (get_or (map f ps) j no_version).mark
      → (j < length ps) × (reached f (drop k ps) ≡ take (j + cond m 1 0 - k) (drop k ps))
  reached-some j m first m-is =
      let inside : j < length ps = omega (arith, owns-inside (map f ps) j first.1, length-map ps f) in
      let on : k + (j - k) ≡ j = omega (arith, first.0) in
      let long = length-drop k ps in
      let moved : j - k + cond m 1 0 ≡ j + cond m 1 0 - k = omega (arith, first.0) in
      let mark : (f (get_or (drop k ps) (j - k) 0)).mark ≡ m =
      ap (λ (q : ℕ). (f q).mark) (get_or-drop k ps (j - k) 0 ∙ ap (λ (i : ℕ). get_or ps i 0) on) ∙ sym (m-is ∙ ap (λ (v : Version). v.mark) (get_or-map f ps j 0 no_version inside)) in (
        inside,
        reached-to f (drop k ps) (j - k) (omega (arith, inside, first.0, long)) (λ i h. there i (omega (arith, h, inside)) ∙ first.2 (k + i) (omega arith) (omega (arith, h, first.0)))
            (there (j - k) (omega (arith, inside, first.0)) ∙ (ap (owns_at (map f ps)) on ∙ first.1))
            ∙ (ap (λ (t : Bool). take (j - k + cond t 1 0) (drop k ps)) mark ∙ ap (λ (n : ℕ). take n (drop k ps)) moved),
      )

-- the places from k on and before end are those of the tasks, where end is past none of them
pub slots-of : (items ps : List ℕ) (k end : ℕ) → take (length ps) items ≡ ps → end ≤ length ps → take (end - k) (drop k items) ≡ take (end - k) (drop k ps)
slots-of items ps k end first le = ⊎_elim
    (λ (l : end < k). let none : end - k ≡ 0 = omega (arith, l) in ap (λ (n : ℕ). take n (drop k items)) none ∙ sym (ap (λ (n : ℕ). take n (drop k ps)) none))
    (λ (l : k ≤ end).
    let on : k + (end - k) ≡ end = omega (arith, l) in
    let same : take end items ≡ take end ps = sym (take-take end (length ps) items le) ∙ ap (λ (x : List ℕ). take end x) first in
    sym (drop-take k (end - k) items) ∙ (ap (λ (n : ℕ). drop k (take n items)) on ∙ (ap (λ (x : List ℕ). drop k x) same ∙ (ap (λ (n : ℕ). drop k (take n ps)) (sym on) ∙ drop-take k (end - k) ps))))
    (cases_lt end k)

powers-append : (xs ys : List ℕ) → powers (xs ++ ys) ≡ powers xs + powers ys
powers-append [] ys = omega arith
powers-append (x ∷ xs) ys = omega (arith, powers-append xs ys)

-- the sum of the places from k on, before end: one place more
pub sum-on : (xs : List ℕ) (k i end mask : ℕ) → i < length xs → mask ≡ powers (take (min i end - k) (drop k xs))
    → mask + cond (leb k i && ltb i end) (2 ^ get_or xs i 0) 0 ≡ powers (take (min (i + 1) end - k) (drop k xs))
sum-on xs k i end mask h so_far = ⊎_elim
    (λ (l : i < k).
    let same : min i end - k ≡ min (i + 1) end - k = omega (arith, l) in
    ap (λ (t : Bool). mask + cond (t && ltb i end) (2 ^ get_or xs i 0) 0) (lt-leb k i l) ∙ (omega (arith, so_far) ∙ ap (λ (n : ℕ). powers (take n (drop k xs))) same))
    (λ (l : k ≤ i). ⊎_elim
    (λ (m : i < end).
    let n = i - k in
    let on : k + n ≡ i = omega (arith, l) in
    let here : get_or (drop k xs) n 0 ≡ get_or xs i 0 = get_or-drop k xs n 0 ∙ ap (λ (j : ℕ). get_or xs j 0) on in
    let more : take (n + 1) (drop k xs) ≡ take n (drop k xs) ++ get_or xs i 0 ∷ [] =
    take_more (drop k xs) n 0 (omega (arith, h, l, length-drop k xs)) ∙ ap (λ (q : ℕ). take n (drop k xs) ++ q ∷ []) here in
    let now : min i end ≡ i = omega (arith, m) in
    let next : n + 1 ≡ min (i + 1) end - k = omega (arith, l, m) in
    let before : mask ≡ powers (take n (drop k xs)) = so_far ∙ ap (λ (j : ℕ). powers (take (j - k) (drop k xs))) now in
    ap (λ (t : Bool). mask + cond (t && ltb i end) (2 ^ get_or xs i 0) 0) (le-leb k i l) ∙ (ap (λ (t : Bool). mask + cond t (2 ^ get_or xs i 0) 0) (lt-ltb i end m)
    ∙ (omega (arith, before, powers-append (take n (drop k xs)) (get_or xs i 0 ∷ [])) ∙ (ap powers (sym more) ∙ ap (λ (j : ℕ). powers (take j (drop k xs))) next))))
    (λ (m : end ≤ i).
    let same : min i end ≡ min (i + 1) end = omega (arith, m) in
    ap (λ (t : Bool). mask + cond (leb k i && t) (2 ^ get_or xs i 0) 0) (le-ltb i end m) ∙ (ap (λ (t : Bool). mask + cond t (2 ^ get_or xs i 0) 0) (and-false (leb k i))
    ∙ (omega (arith, so_far) ∙ ap (λ (j : ℕ). powers (take (j - k) (drop k xs))) same)))
    (cases_lt i end))
    (cases_lt i k)
  where
    and-false : (t : Bool) → (t && false) ≡ false
    and-false true = refl
    and-false false = refl

pub byte-is : (t : Bool) → (bool_byte t ≡ cond t 1 0) × (bool_byte t ≤ 1)
byte-is true = (refl, omega arith)
byte-is false = (refl, omega arith)

-- the bit of a processor, if it is set
pub bit : (t : Bool) (p : ℕ) → p < 4 → (bool_byte t * 2 ^ p % 2 ^ 32 ≡ cond t (2 ^ p) 0) × (cond t (2 ^ p) 0 ≤ 8)
bit true p h = let low = pow_mono {i = p} {j = 3} (omega arith) in (omega (arith, low), omega (arith, low))
bit false p h = (omega arith, omega arith)
