-- Laws of cutting a list at its first element that passes a test.
use Rattle.std.proofs.Common.{◌≡◌, ℕ, suc, ◌+◌, ◌-◌, ◌≤◌, Bool, true, false, ◌||◌, List, [], ◌∷◌, ◌++◌, map, length, take, drop, sym, refl, ap, ◌∙◌, arith}
use Rattle.std.specs.List.{list_any, position_or_len, before_first, after_first}
use Rattle.std.proofs.Math.Seq.{take-append_seam, drop-append-add}
use Rattle.std.proofs.lemmas.List.{length-append, length-map, take_all, take-map}
use Rattle.std.proofs.lemmas.Bool.{or_parts, true≢false}
use Rattle.std.proofs.lemmas.Bool.Decides.{nat_tests}
use Rattle.versions.specs.Cuts.{up_to, changed, but_last}

-- the first element that passes, with what stands before it and after it
pub record Found {A : Type 0} (f : A → Bool) (xs : List A) : Type 0 where
  pub front : List A
  pub here : A
  pub back : List A
  pub parts : xs ≡ front ++ here ∷ back
  pub none : list_any f front ≡ false
  pub passes : f here ≡ true

pub found : {A : Type 0} (f : A → Bool) (xs : List A) → list_any f xs ≡ true → Found f xs
found f [] e = absurd (true≢false (sym e))
found f (x ∷ xs) e = go (f x) refl (λ h. found f xs h)
  where
    go : (t : Bool) → f x ≡ t → (list_any f xs ≡ true → Found f xs) → Found f (x ∷ xs)
    go true h again = record { front = []; here = x; back = xs; parts = refl; none = refl; passes = h }
    go false h again =
        let rest = again (grind (arith, nat_tests)) in
        record { front = x ∷ rest.front; here = rest.here; back = rest.back; parts = ap (λ ys. x ∷ ys) rest.parts; none = rw h rest.none; passes = rest.passes }

pub any-++ : {A : Type 0} (f : A → Bool) (xs ys : List A) → list_any f (xs ++ ys) ≡ (list_any f xs || list_any f ys)
any-++ f [] ys = refl
any-++ f (x ∷ xs) ys = let h = any-++ f xs ys in grind (arith, nat_tests)

module _ {A : Type 0} (f : A → Bool) (x : A) (post : List A) (here : f x ≡ true) where
  -- the place of the first that passes
  first_place : (pre : List A) → list_any f pre ≡ false → position_or_len f (pre ++ x ∷ post) ≡ length pre
  first_place [] none = rw here
  first_place (y ∷ pre) none = let p = or_parts (f y) (list_any f pre) none in rw p.0 (omega (arith, first_place pre p.1))

  pub before_first_at : (pre : List A) → list_any f pre ≡ false → before_first f (pre ++ x ∷ post) ≡ pre
  before_first_at pre none = ap (λ (k : ℕ). take k (pre ++ x ∷ post)) (first_place pre none) ∙ take-append_seam pre (x ∷ post)

  pub up_to-at : (pre : List A) → list_any f pre ≡ false → up_to f (pre ++ x ∷ post) ≡ pre ++ x ∷ []
  up_to-at [] none = rw here
  up_to-at (y ∷ pre) none = let p = or_parts (f y) (list_any f pre) none in rw (p.0, up_to-at pre p.1)

  pub after_first_at : (pre : List A) → list_any f pre ≡ false → after_first f (pre ++ x ∷ post) ≡ post
  after_first_at pre none = ap (λ (k : ℕ). drop (k + 1) (pre ++ x ∷ post)) (first_place pre none) ∙ drop-append-add pre (x ∷ post) 1

  pub changed-at : (g : A → A) (pre : List A) → list_any f pre ≡ false → changed f g (pre ++ x ∷ post) ≡ pre ++ g x ∷ post
  changed-at g [] none = rw here
  changed-at g (y ∷ pre) none = let p = or_parts (f y) (list_any f pre) none in rw (p.0, changed-at g pre p.1)

pub but_last-cons : {A : Type 0} (n : ℕ) (x : A) (xs : List A) → n ≤ length xs → but_last n (x ∷ xs) ≡ x ∷ but_last n xs
but_last-cons n x xs h = let e : suc (length xs) - n ≡ suc (length xs - n) = omega arith in rw e

pub but_last-all : {A : Type 0} (xs : List A) → but_last 0 xs ≡ xs
but_last-all xs = take_all (length xs - 0) xs (omega arith)

pub but_last-++ : {A : Type 0} (n : ℕ) (xs ys : List A) → n ≤ length ys → but_last n (xs ++ ys) ≡ xs ++ but_last n ys
but_last-++ n [] ys h = refl
but_last-++ n (x ∷ xs) ys h =
    let m : n ≤ length (xs ++ ys) = rw length-append (omega arith) in
    but_last-cons n x (xs ++ ys) m ∙ ap (λ zs. x ∷ zs) (but_last-++ n xs ys h)

pub but_last-at : {A : Type 0} (n : ℕ) (pre : List A) (x : A) (post : List A) → n ≤ length post → but_last n (pre ++ x ∷ post) ≡ pre ++ x ∷ but_last n post
but_last-at n pre x post h = but_last-++ n pre (x ∷ post) (omega arith) ∙ ap (λ zs. pre ++ zs) (but_last-cons n x post h)

pub but_last-map : {A B : Type 0} (n : ℕ) (f : A → B) (xs : List A) → but_last n (map f xs) ≡ map f (but_last n xs)
but_last-map n f xs = ap (λ (m : ℕ). take (m - n) (map f xs)) (length-map xs f) ∙ take-map f (length xs - n) xs
