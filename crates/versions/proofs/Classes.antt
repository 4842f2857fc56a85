-- A task by classes: it holds at most one address of each of the 16. Whether a class is taken, and how a commit that goes
-- class by class writes and counts all own words.
use Rattle.std.proofs.Common.{◌≡◌, ℕ, zero, suc, ◌+◌, ◌%◌, ◌<◌, ◌≤◌, Bool, true, false, cond, not, ◌&&◌, ◌||◌, eqb, ltb, ◌≢◌, List, length, get_or, set, is_some, Some, None, Option, MatchOption, unwrap_or, sym, refl, ap, ◌∙◌, subst, ⊎_elim, add-zero, add-one, arith}
use Rattle.std.specs.Option.{option_or}
use Rattle.std.proofs.lemmas.List.{ext_get_or, length-set, get_or-set_same, get_or-set_other}
use Rattle.std.proofs.lemmas.Bool.{eqb-true, eq-eqb, ne_eqb, cases_eq, cases_lt, lt-ltb, le-ltb, cond-true, cond-false, true≢false, eqb-false, or_left, or_right, or_parts}
use Rattle.std.proofs.lemmas.Bool.Decides.{nat_tests}
use Rattle.memory.specs.Client.{count_below}
use Rattle.versions.specs.declared.version.Version.{Version}
use Rattle.versions.specs.Cuts.{any_below}
use Rattle.versions.specs.Versions.{no_version, is_own, is_held, laid_over}
use Rattle.versions.specs.Plain.{Task, holds_class, laid_over_all, written_to}
use Rattle.versions.specs.Tables.{HeldIn, up_to_class, of_class, last_own, ClassWritten}
use Rattle.versions.proofs.Holding.{length-laid_over_all, get_or-laid_over_all}
use Rattle.versions.proofs.Ordering.{none-some}

-- a version that is not held is none
pub unheld-none : (v : Version) → is_held v ≡ false → v ≡ no_version
unheld-none v h = go v.mark refl v.own refl h
  where
    go : (m : Bool) → v.mark ≡ m → (o : Option ℕ) → v.own ≡ o → (m || is_some o) ≡ false → v ≡ no_version
    go true x o y h = absurd (true≢false h)
    go false x (Some w) y h = absurd (true≢false h)
    go false x None y h = ap (λ (m : Bool). record { mark = m; own = v.own }) x ∙ ap (λ (o : Option ℕ). record { mark = false; own = o }) y

-- none passes
pub any_below-never : (f : ℕ → Bool) (n : ℕ) → any_below f n ≡ false → (q : ℕ) → q < n → f q ≡ false
any_below-never f zero h q l = absurd (omega arith)
any_below-never f (suc n) h q l =
    let parts = or_parts (f n) (any_below f n) h in
    ⊎_elim
    (λ (e : q ≡ n). subst (λ (x : ℕ). f x ≡ false) (sym e) parts.0)
    (λ (ne : q ≢ n). any_below-never f n parts.1 q (omega arith))
    (cases_eq q n)

-- a test of the numbers below n: one passes; none does
pub any_below-some : (f : ℕ → Bool) (n b : ℕ) → b < n → f b ≡ true → any_below f n ≡ true
any_below-some f zero b h e = absurd (omega arith)
any_below-some f (suc n) b h e =
    ⊎_elim
    (λ (same : b ≡ n). or_left (f n) (any_below f n) (subst (λ (c : ℕ). f c ≡ true) same e))
    (λ (ne : b ≢ n). or_right (f n) (any_below f n) (any_below-some f n b (omega arith) e))
    (cases_eq b n)

pub any_below-none : (f : ℕ → Bool) (n : ℕ) → ((b : ℕ) → f b ≡ false) → any_below f n ≡ false
any_below-none f zero h = refl
any_below-none f (suc n) h = rw (h n, any_below-none f n h)

-- whether another address than a is held, where o is the one of a's class that is held
abbrev pub taken_by : Option ℕ → ℕ → Bool
taken_by None a = false
taken_by (Some b) a = not (eqb b a)

-- a test of the address that is held
pub taken-test : {P : ℕ → Type 0} (o : Option ℕ) (a : ℕ) (r : Bool) → MatchOption o (r ≡ false) P → ((b : ℕ) → P b → r ≡ not (eqb b a)) → r ≡ taken_by o a
taken-test None a r m test = m
taken-test (Some b) a r m test = test b m

pub class-taken : (t : Task) (a n : ℕ) (o : Option ℕ) → HeldIn t.at (a % 16) o
    → ((b : ℕ) → is_held (t.at b) ≡ true → b < n) → ((b c : ℕ) → is_held (t.at b) ≡ true → is_held (t.at c) ≡ true → b % 16 ≡ c % 16 → b ≡ c)
    → taken_by o a ≡ holds_class t a n
class-taken t a n None h inside one = sym (any_below-none (λ b. is_held (t.at b) && (not (eqb b a) && eqb (b % 16) (a % 16))) n (λ b. go b (eqb (b % 16) (a % 16)) refl))
  where
    go : (b : ℕ) (u : Bool) → eqb (b % 16) (a % 16) ≡ u → (is_held (t.at b) && (not (eqb b a) && u)) ≡ false
    go b true e = let none : is_held (t.at b) ≡ false = h b (eqb-true (b % 16) (a % 16) e) in rw none
    go b false e = grind (arith, nat_tests)
class-taken t a n (Some b) h inside one = go (eqb b a) refl
  where
    go : (u : Bool) → eqb b a ≡ u → not u ≡ holds_class t a n
    go true e =
        sym (any_below-none (λ c. is_held (t.at c) && (not (eqb c a) && eqb (c % 16) (a % 16))) n
        (λ c. only c (is_held (t.at c)) refl (eqb (c % 16) (a % 16)) refl))
      where
        only : (c : ℕ) (u : Bool) → is_held (t.at c) ≡ u → (v : Bool) → eqb (c % 16) (a % 16) ≡ v → (u && (not (eqb c a) && v)) ≡ false
        only c true held true same =
            let is : c ≡ b = one c b held h.1 (eqb-true (c % 16) (a % 16) same ∙ sym h.0) in
            rw (eq-eqb c a (is ∙ eqb-true b a e))
        only c true held false other = grind (arith, nat_tests)
        only c false free v other = refl
    go false e =
        sym (any_below-some (λ c. is_held (t.at c) && (not (eqb c a) && eqb (c % 16) (a % 16))) n b (inside b h.1)
        (rw (h.1, e, eq-eqb (b % 16) (a % 16) h.0)))

laid_over_all-ext : (f g : ℕ → Version) (ws : List ℕ) → ((a w : ℕ) → laid_over (f a) w ≡ laid_over (g a) w) → laid_over_all f ws ≡ laid_over_all g ws
laid_over_all-ext f g ws same =
    ext_get_or 0 (laid_over_all f ws) (laid_over_all g ws) (length-laid_over_all f ws ∙ sym (length-laid_over_all g ws))
    (λ a h. let l : a < length ws = subst (λ (n : ℕ). a < n) (length-laid_over_all f ws) h in
    get_or-laid_over_all f ws a l ∙ (same a (get_or ws a 0) ∙ sym (get_or-laid_over_all g ws a l)))

count_below-ext : (f g : ℕ → Bool) (n : ℕ) → ((a : ℕ) → f a ≡ g a) → count_below f n ≡ count_below g n
count_below-ext f g zero same = refl
count_below-ext f g (suc n) same = rw (same n, count_below-ext f g n same)

-- one number more passes
count_below-more : (f g : ℕ → Bool) (n b : ℕ) → b < n → f b ≡ false → g b ≡ true → ((a : ℕ) → a ≢ b → g a ≡ f a) → count_below g n ≡ count_below f n + 1
count_below-more f g zero b h off on same = absurd (omega arith)
count_below-more f g (suc n) b h off on same =
    ⊎_elim
    (λ (e : b ≡ n).
    let rest : count_below g n ≡ count_below f n = below n (λ a l. same a (omega arith)) in
    let fn : f n ≡ false = subst (λ (c : ℕ). f c ≡ false) e off in
    let gn : g n ≡ true = subst (λ (c : ℕ). g c ≡ true) e on in
    rw (fn, gn, rest) (omega arith))
    (λ (ne : b ≢ n).
    let again = count_below-more f g n b (omega arith) off on same in
    rw (same n (λ e. ne (sym e)), again) (omega arith))
    (cases_eq b n)
  where
    below : (m : ℕ) → ((a : ℕ) → a < m → g a ≡ f a) → count_below g m ≡ count_below f m
    below zero s = refl
    below (suc m) s = rw (s m (omega arith), below m (λ a l. s a (omega arith)))

-- one class more: in class c stands the version of the task, below it what was there
class-step : (at : ℕ → Version) (c a : ℕ) → up_to_class at (c + 1) a ≡ cond (eqb (a % 16) c) (at a) (up_to_class at c a)
class-step at c a =
    ⊎_elim
    (λ (e : a % 16 ≡ c). cond-true (ltb (a % 16) (c + 1)) (at a) no_version (lt-ltb (a % 16) (c + 1) (omega arith)) ∙ sym (cond-true (eqb (a % 16) c) (at a) (up_to_class at c a) (eq-eqb (a % 16) c e)))
    (λ (ne : a % 16 ≢ c).
    ap (λ (t : Bool). cond t (at a) no_version) (same ne) ∙ sym (cond-false (eqb (a % 16) c) (at a) (up_to_class at c a) (ne_eqb (a % 16) c ne)))
    (cases_eq (a % 16) c)
  where
    same : a % 16 ≢ c → ltb (a % 16) (c + 1) ≡ ltb (a % 16) c
    same ne =
        ⊎_elim
        (λ (l : a % 16 < c). lt-ltb (a % 16) (c + 1) (omega arith) ∙ sym (lt-ltb (a % 16) c l))
        (λ (g : c ≤ a % 16). le-ltb (a % 16) (c + 1) (omega arith) ∙ sym (le-ltb (a % 16) c g))
        (cases_lt (a % 16) c)

not_yet : (at : ℕ → Version) (c a : ℕ) → a % 16 ≡ c → up_to_class at c a ≡ no_version
not_yet at c a e = cond-false (ltb (a % 16) c) (at a) no_version (le-ltb (a % 16) c (omega arith))

own-none : (v : Version) (w : ℕ) → is_own v ≡ false → laid_over v w ≡ w
own-none v w e = go v.own e
  where
    go : (o : Option ℕ) → is_some o ≡ false → unwrap_or o w ≡ w
    go None e = refl
    go (Some x) e = absurd (true≢false e)

-- a class without an own word adds nothing
pub words_same : (at : ℕ → Version) (c : ℕ) (ws : List ℕ) → ((a : ℕ) → a % 16 ≡ c → is_own (at a) ≡ false) → laid_over_all (up_to_class at (c + 1)) ws ≡ laid_over_all (up_to_class at c) ws
words_same at c ws none =
    laid_over_all-ext (up_to_class at (c + 1)) (up_to_class at c) ws
    (λ a w. ap (λ (v : Version). laid_over v w) (class-step at c a)
    ∙ ⊎_elim
    (λ (e : a % 16 ≡ c). ap (λ (v : Version). laid_over v w) (cond-true (eqb (a % 16) c) (at a) (up_to_class at c a) (eq-eqb (a % 16) c e))
    ∙ (own-none (at a) w (none a e) ∙ sym (ap (λ (v : Version). laid_over v w) (not_yet at c a e))))
    (λ (ne : a % 16 ≢ c). ap (λ (v : Version). laid_over v w) (cond-false (eqb (a % 16) c) (at a) (up_to_class at c a) (ne_eqb (a % 16) c ne)))
    (cases_eq (a % 16) c))

pub count_same : (at : ℕ → Version) (c n : ℕ) → ((a : ℕ) → a % 16 ≡ c → is_own (at a) ≡ false)
    → count_below (λ a. is_own (up_to_class at (c + 1) a)) n ≡ count_below (λ a. is_own (up_to_class at c a)) n
count_same at c n none =
    count_below-ext (λ a. is_own (up_to_class at (c + 1) a)) (λ a. is_own (up_to_class at c a)) n
    (λ a. ap is_own (class-step at c a)
    ∙ ⊎_elim
    (λ (e : a % 16 ≡ c). ap is_own (cond-true (eqb (a % 16) c) (at a) (up_to_class at c a) (eq-eqb (a % 16) c e)) ∙ (none a e ∙ sym (ap is_own (not_yet at c a e))))
    (λ (ne : a % 16 ≢ c). ap is_own (cond-false (eqb (a % 16) c) (at a) (up_to_class at c a) (ne_eqb (a % 16) c ne)))
    (cases_eq (a % 16) c))

-- a class with the own word w at b, and no other, adds that
module _ (at : ℕ → Version) (c b w : ℕ) (class : b % 16 ≡ c) (own : (at b).own ≡ Some w) (only : (a : ℕ) → a % 16 ≡ c → a ≢ b → is_own (at a) ≡ false) where
  here : up_to_class at (c + 1) b ≡ at b
  here = class-step at c b ∙ cond-true (eqb (b % 16) c) (at b) (up_to_class at c b) (eq-eqb (b % 16) c class)

  elsewhere-lays : (a u : ℕ) → a ≢ b → laid_over (up_to_class at (c + 1) a) u ≡ laid_over (up_to_class at c a) u
  elsewhere-lays a u ne =
      ap (λ (v : Version). laid_over v u) (class-step at c a)
      ∙ ⊎_elim
      (λ (e : a % 16 ≡ c). ap (λ (v : Version). laid_over v u) (cond-true (eqb (a % 16) c) (at a) (up_to_class at c a) (eq-eqb (a % 16) c e))
      ∙ (own-none (at a) u (only a e ne) ∙ sym (ap (λ (v : Version). laid_over v u) (not_yet at c a e))))
      (λ (o : a % 16 ≢ c). ap (λ (v : Version). laid_over v u) (cond-false (eqb (a % 16) c) (at a) (up_to_class at c a) (ne_eqb (a % 16) c o)))
      (cases_eq (a % 16) c)

  elsewhere-own : (a : ℕ) → a ≢ b → is_own (up_to_class at (c + 1) a) ≡ is_own (up_to_class at c a)
  elsewhere-own a ne =
      ap is_own (class-step at c a)
      ∙ ⊎_elim
      (λ (e : a % 16 ≡ c). ap is_own (cond-true (eqb (a % 16) c) (at a) (up_to_class at c a) (eq-eqb (a % 16) c e)) ∙ (only a e ne ∙ sym (ap is_own (not_yet at c a e))))
      (λ (o : a % 16 ≢ c). ap is_own (cond-false (eqb (a % 16) c) (at a) (up_to_class at c a) (ne_eqb (a % 16) c o)))
      (cases_eq (a % 16) c)

  pub words_more : (ws : List ℕ) → b < length ws → set (laid_over_all (up_to_class at c) ws) b w ≡ laid_over_all (up_to_class at (c + 1)) ws
  words_more ws l =
      let old = laid_over_all (up_to_class at c) ws in
      let new = laid_over_all (up_to_class at (c + 1)) ws in
      let n : length old ≡ length ws = length-laid_over_all (up_to_class at c) ws in
      ext_get_or 0 (set old b w) new (length-set old b w ∙ (n ∙ sym (length-laid_over_all (up_to_class at (c + 1)) ws)))
      (λ a h.
      let inside : a < length ws = subst (λ (m : ℕ). a < m) (length-set old b w ∙ n) h in
      ⊎_elim
      (λ (e : a ≡ b).
      subst (λ (d : ℕ). get_or (set old b w) d 0 ≡ get_or new d 0) (sym e)
      (get_or-set_same old b w 0 (subst (λ (m : ℕ). b < m) (sym n) l)
      ∙ sym (get_or-laid_over_all (up_to_class at (c + 1)) ws b l ∙ (ap (λ (v : Version). laid_over v (get_or ws b 0)) here ∙ ap (λ (o : Option ℕ). unwrap_or o (get_or ws b 0)) own))))
      (λ (ne : a ≢ b).
      get_or-set_other old b a w 0 ne
      ∙ (get_or-laid_over_all (up_to_class at c) ws a inside
      ∙ sym (get_or-laid_over_all (up_to_class at (c + 1)) ws a inside ∙ elsewhere-lays a (get_or ws a 0) ne)))
      (cases_eq a b))

  pub count-more : (n : ℕ) → b < n → count_below (λ a. is_own (up_to_class at (c + 1) a)) n ≡ count_below (λ a. is_own (up_to_class at c a)) n + 1
  count-more n l =
      count_below-more (λ a. is_own (up_to_class at c a)) (λ a. is_own (up_to_class at (c + 1) a)) n b l
      (ap is_own (not_yet at c b class)) (ap is_own here ∙ ap is_some own) elsewhere-own

-- before the first class nothing, after the last everything
pub words-none : (at : ℕ → Version) (ws : List ℕ) → laid_over_all (up_to_class at 0) ws ≡ ws
words-none at ws =
    ext_get_or 0 (laid_over_all (up_to_class at 0) ws) ws (length-laid_over_all (up_to_class at 0) ws)
    (λ a h. let l : a < length ws = subst (λ (n : ℕ). a < n) (length-laid_over_all (up_to_class at 0) ws) h in
    get_or-laid_over_all (up_to_class at 0) ws a l ∙ ap (λ (v : Version). laid_over v (get_or ws a 0)) (cond-false (ltb (a % 16) 0) (at a) no_version (le-ltb (a % 16) 0 (omega arith))))

pub count_none : (at : ℕ → Version) (n : ℕ) → count_below (λ a. is_own (up_to_class at 0 a)) n ≡ 0
count_none at zero = refl
count_none at (suc n) = rw (cond-false (ltb (n % 16) 0) (at n) no_version (le-ltb (n % 16) 0 (omega arith)), count_none at n) (omega arith)

all-classes : (at : ℕ → Version) (a : ℕ) → up_to_class at 16 a ≡ at a
all-classes at a = cond-true (ltb (a % 16) 16) (at a) no_version (lt-ltb (a % 16) 16 (omega arith))

pub words-all : (at : ℕ → Version) (ws : List ℕ) → laid_over_all (up_to_class at 16) ws ≡ laid_over_all at ws
words-all at ws = laid_over_all-ext (up_to_class at 16) at ws (λ a w. ap (λ (v : Version). laid_over v w) (all-classes at a))

pub count-all : (at : ℕ → Version) (n : ℕ) → count_below (λ a. is_own (up_to_class at 16 a)) n ≡ count_below (λ a. is_own (at a)) n
count-all at n = count_below-ext (λ a. is_own (up_to_class at 16 a)) (λ a. is_own (at a)) n (λ a. ap is_own (all-classes at a))

-- whether the address held of a class has an own word, and the words with it written
abbrev pub held_own : (ℕ → Version) → Option ℕ → Bool
held_own at None = false
held_own at (Some b) = is_own (at b)

abbrev pub held_written : (ℕ → Version) → Option ℕ → List ℕ → List ℕ
held_written at None vs = vs
held_written at (Some b) vs = written_to (at b).own b vs

-- class c is written: nothing is held of it, or the own word of the address b that is held, if there is one
pub class-written : (at : ℕ → Version) (c : ℕ) (ws vs : List ℕ) (n : ℕ) (o : Option ℕ) → HeldIn at c o
    → ((b d : ℕ) → is_held (at b) ≡ true → is_held (at d) ≡ true → b % 16 ≡ d % 16 → b ≡ d)
    → laid_over_all (up_to_class at c) ws ≡ vs → n ≡ cond (held_own at o) 1 0 → (later : List ℕ) → later ≡ held_written at o vs
    → ((b : ℕ) → o ≡ Some b → b < length ws) → ClassWritten at c ws later n
class-written at c ws vs n None held one before n-is later later-is inside =
    let none : (a : ℕ) → a % 16 ≡ c → is_own (at a) ≡ false = λ a e. (or_parts (at a).mark (is_own (at a)) (held a e)).1 in
    record {
      words = later-is ∙ (sym before ∙ sym (words_same at c ws none));
      count = count_same at c (length ws) none ∙ (sym (add-zero (count_below (λ a. is_own (up_to_class at c a)) (length ws))) ∙ ap (λ (k : ℕ). count_below (λ a. is_own (up_to_class at c a)) (length ws) + k) (sym n-is));
    }
class-written at c ws vs n (Some b) held one before n-is later later-is inside = go (at b).own refl n-is later-is
  where
    only : (a : ℕ) → a % 16 ≡ c → a ≢ b → is_own (at a) ≡ false
    only a e ne = not_own (is_own (at a)) refl
      where
        not_own : (t : Bool) → is_own (at a) ≡ t → t ≡ false
        not_own true h = absurd (ne (one a b (or_right (at a).mark (is_own (at a)) h) held.1 (e ∙ sym held.0)))
        not_own false h = refl

    go : (own : Option ℕ) → (at b).own ≡ own → n ≡ cond (is_some (at b).own) 1 0 → later ≡ written_to (at b).own b vs → ClassWritten at c ws later n
    go None e k l =
        let none : (a : ℕ) → a % 16 ≡ c → is_own (at a) ≡ false =
        λ a f. ⊎_elim (λ (s : a ≡ b). ap (λ (x : ℕ). is_own (at x)) s ∙ ap is_some e) (λ (ne : a ≢ b). only a f ne) (cases_eq a b) in
        let zero_is : n ≡ 0 = k ∙ ap (λ (o : Option ℕ). cond (is_some o) 1 0) e in
        record {
          words = l ∙ (ap (λ (o : Option ℕ). written_to o b vs) e ∙ (sym before ∙ sym (words_same at c ws none)));
          count = count_same at c (length ws) none ∙ (sym (add-zero (count_below (λ a. is_own (up_to_class at c a)) (length ws))) ∙ ap (λ (j : ℕ). count_below (λ a. is_own (up_to_class at c a)) (length ws) + j) (sym zero_is));
        }
    go (Some w) e k l =
        let one-is : n ≡ 1 = k ∙ ap (λ (o : Option ℕ). cond (is_some o) 1 0) e in
        record {
          words = l ∙ (ap (λ (o : Option ℕ). written_to o b vs) e ∙ (ap (λ (x : List ℕ). set x b w) (sym before) ∙ words_more at c b w held.0 e only ws (inside b refl)));
          count = count-more at c b w held.0 e only (length ws) (inside b refl) ∙ ap (λ (j : ℕ). count_below (λ a. is_own (up_to_class at c a)) (length ws) + j) (sym one-is);
        }

pub class-inside : (at : ℕ → Version) (c : ℕ) (ws vs : List ℕ) (b : ℕ) → laid_over_all (up_to_class at c) ws ≡ vs → b < length vs → (d : ℕ) → Some b ≡ Some d → d < length ws
class-inside at c ws vs b before l d e =
    let same : b ≡ d = cc in
    subst (λ (x : ℕ). x < length ws) same (subst (λ (n : ℕ). b < n) (ap length (sym before) ∙ length-laid_over_all (up_to_class at c) ws) l)

-- what is known of the address of a class that passes a test
pub held-some : (f : ℕ → Bool) (c n a : ℕ) → of_class f c n ≡ Some a → (a < n) × (f a ≡ true) × (a % 16 ≡ c)
held-some f c zero a e = let z : ◌≡◌ {A = ℕ} 0 1 = cc in absurd (omega arith)
held-some f c (suc n) a e = go (f n) (eqb (n % 16) c) refl refl e (λ g. held-some f c n a g)
  where
    go : (t u : Bool) → f n ≡ t → eqb (n % 16) c ≡ u → cond (t && u) (Some n) (of_class f c n) ≡ Some a → (of_class f c n ≡ Some a → (a < n) × (f a ≡ true) × (a % 16 ≡ c))
        → (a < suc n) × (f a ≡ true) × (a % 16 ≡ c)
    go true true h s g again =
        let same : n ≡ a = cc in
        (omega (arith, same), ap (λ (b : ℕ). f b) (sym same) ∙ h, ap (λ (b : ℕ). b % 16) (sym same) ∙ eqb-true (n % 16) c s)
    go true false h s g again = let x = again g in (omega (arith, x.0), x.1, x.2)
    go false u h s g again = let x = again g in (omega (arith, x.0), x.1, x.2)

pub held_none : (f : ℕ → Bool) (c n : ℕ) → of_class f c n ≡ None → (b : ℕ) → b < n → b % 16 ≡ c → f b ≡ false
held_none f c zero e b h class = absurd (omega arith)
held_none f c (suc n) e b lim class = go (f n) (eqb (n % 16) c) refl refl e (λ g l. held_none f c n g b l class)
  where
    here : (t : Bool) → f n ≡ t → (t ≡ true → ⊥) → (b < n → f b ≡ false) → f b ≡ false
    here true h ne again = absurd (ne refl)
    here false h ne again = ⊎_elim (λ (l : b < n). again l) (λ (l : n ≤ b). let same : n ≡ b = omega (arith, lim) in ap (λ (r : ℕ). f r) (sym same) ∙ h) (cases_lt b n)

    go : (t u : Bool) → f n ≡ t → eqb (n % 16) c ≡ u → cond (t && u) (Some n) (of_class f c n) ≡ None → (of_class f c n ≡ None → b < n → f b ≡ false) → f b ≡ false
    go true true h s g again = absurd (none-some n g)
    go true false h s g again =
        ⊎_elim (λ (l : b < n). again g l)
        (λ (l : n ≤ b). let same : n ≡ b = omega (arith, lim) in absurd (eqb-false (n % 16) c s (ap (λ (r : ℕ). r % 16) same ∙ class))) (cases_lt b n)
    go false u h s g again = here false h (λ e. absurd (true≢false (sym e))) (again g)

-- the last own word, one class further
pub last_on : (at : ℕ → Version) (n c : ℕ) (o last later : Option ℕ) → o ≡ of_class (λ a. is_own (at a)) c n → last ≡ last_own at n c → later ≡ option_or o last → later ≡ last_own at n (c + 1)
last_on at n c o last later o_is last-is later-is =
    later-is ∙ (ap (λ (x : Option ℕ). option_or x last) o_is ∙ (ap (option_or (of_class (λ a. is_own (at a)) c n)) last-is ∙ ap (last_own at n) (sym (add-one c))))

-- who holds b of class c, and no other of that class: the own word of the class is the one at b
abbrev own_of : (ℕ → Version) → Option ℕ → Option ℕ
own_of at None = None
own_of at (Some b) = cond (is_own (at b)) (Some b) None

module _ (at : ℕ → Version) (c n : ℕ) (one : (a b : ℕ) → is_held (at a) ≡ true → is_held (at b) ≡ true → a % 16 ≡ b % 16 → a ≡ b) where
  own_held : (b : ℕ) → is_own (at b) ≡ true → is_held (at b) ≡ true
  own_held b e = go (at b).mark
    where
      go : (t : Bool) → (t || is_own (at b)) ≡ true
      go true = refl
      go false = e

  pub class-address : (o : Option ℕ) → HeldIn at c o → ((b : ℕ) → is_held (at b) ≡ true → b < n) → own_of at o ≡ of_class (λ a. is_own (at a)) c n
  class-address None h inside = go (of_class (λ a. is_own (at a)) c n) refl
    where
      go : (x : Option ℕ) → of_class (λ a. is_own (at a)) c n ≡ x → None ≡ x
      go None e = refl
      go (Some a) e = let x = held-some (λ b. is_own (at b)) c n a e in absurd (true≢false (sym (own_held a x.1) ∙ h a x.2))
  class-address (Some b) h inside = go (is_own (at b)) refl (of_class (λ a. is_own (at a)) c n) refl
    where
      go : (t : Bool) → is_own (at b) ≡ t → (x : Option ℕ) → of_class (λ a. is_own (at a)) c n ≡ x → cond t (Some b) None ≡ x
      go true own None e = absurd (true≢false (sym own ∙ held_none (λ a. is_own (at a)) c n e b (inside b h.1) h.0))
      go true own (Some a) e = let x = held-some (λ d. is_own (at d)) c n a e in ap Some (one b a h.1 (own_held a x.1) (h.0 ∙ sym x.2))
      go false none None e = refl
      go false none (Some a) e =
          let x = held-some (λ d. is_own (at d)) c n a e in
          let same : a ≡ b = one a b (own_held a x.1) h.1 (x.2 ∙ sym h.0) in
          absurd (true≢false (sym x.1 ∙ (ap (λ d. is_own (at d)) same ∙ none)))
