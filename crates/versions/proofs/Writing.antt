-- A commit goes over the classes of a set, the lowest first. Classes that it skips hold nothing, so it stands before the next class as
-- if it had gone over them.
use Rattle.std.proofs.Common.{◌≡◌, ℕ, zero, suc, ◌+◌, ◌-◌, ◌%◌, ◌<◌, ◌≤◌, ◌≢◌, Bool, true, false, cond, not, ◌&&◌, eqb, List, length, Some, None, Option, sym, refl, ap, ◌∙◌, subst, ⊎_elim, add-zero, arith}
use Rattle.std.specs.Option.{option_or}
use Rattle.std.proofs.lemmas.Bool.{eqb-true, eq-eqb, ne_eqb, cases_eq, cases_lt, true≢false, or_parts}
use Rattle.memory.specs.Client.{count_below}
use Rattle.versions.specs.declared.class_set.ClassSet.{ClassSet}
use Rattle.versions.specs.declared.version.Version.{Version}
use Rattle.versions.specs.ClassSets.{has, Lowest}
use Rattle.versions.specs.Versions.{is_own}
use Rattle.versions.specs.Plain.{laid_over_all}
use Rattle.versions.specs.Tables.{HeldIn, up_to_class, of_class, last_own, ClassWritten}
use Rattle.versions.proofs.Classes.{words_same, count_same, words-none, count_none, last_on}

-- the own words of the classes below c are written over the words ws: vs are the words then, n is how many were written, and last is
-- the address of the last of them
pub record WrittenBelow (at : ℕ → Version) (c : ℕ) (ws vs : List ℕ) (n : ℕ) (last : Option ℕ) : Type 0 where
  pub words : vs ≡ laid_over_all (up_to_class at c) ws
  pub count : n ≡ count_below (λ a. is_own (up_to_class at c a)) (length ws)
  pub few : n ≤ c
  pub address : last ≡ last_own at (length ws) c

-- the classes below c are out of the set that is left, and a class from c on is in it if the task holds an address of it
pub record LeftFrom (at : ℕ → Version) (left : ClassSet) (c : ℕ) : Type 0 where
  pub within : c ≤ 16
  pub out : (d : ℕ) → d < c → has left d ≡ false
  pub empty : (d : ℕ) → c ≤ d → d < 16 → has left d ≡ false → HeldIn at d None

of_class-none : (f : ℕ → Bool) (c n : ℕ) → ((a : ℕ) → a % 16 ≡ c → f a ≡ false) → of_class f c n ≡ None
of_class-none f c zero none = refl
of_class-none f c (suc n) none = go (f n) (eqb (n % 16) c) refl refl (of_class-none f c n none)
  where
    go : (t u : Bool) → f n ≡ t → eqb (n % 16) c ≡ u → of_class f c n ≡ None → cond (t && u) (Some n) (of_class f c n) ≡ None
    go true true h s below = absurd (true≢false (sym h ∙ none n (eqb-true (n % 16) c s)))
    go true false h s below = below
    go false u h s below = below

module _ (at : ℕ → Version) (ws vs : List ℕ) (n : ℕ) (last : Option ℕ) where
  -- a class that holds nothing is passed over
  below-next : (c : ℕ) → HeldIn at c None → WrittenBelow at c ws vs n last → WrittenBelow at (c + 1) ws vs n last
  below-next c empty h =
      let none : (a : ℕ) → a % 16 ≡ c → is_own (at a) ≡ false = λ a e. (or_parts (at a).mark (is_own (at a)) (empty a e)).1 in
      record {
        words = h.words ∙ sym (words_same at c ws none);
        count = h.count ∙ sym (count_same at c (length ws) none);
        few = omega (arith, h.few);
        address = last_on at (length ws) c None last last (sym (of_class-none (λ a. is_own (at a)) c (length ws) none)) h.address refl;
      }

  -- and so are some in a row
  below-skip : (c k : ℕ) → ((d : ℕ) → c ≤ d → d < c + k → HeldIn at d None) → WrittenBelow at c ws vs n last → WrittenBelow at (c + k) ws vs n last
  below-skip c zero empty h = subst (λ (d : ℕ). WrittenBelow at d ws vs n last) (sym (add-zero c)) h
  below-skip c (suc k) empty h =
      let before : WrittenBelow at (c + k) ws vs n last = below-skip c k (λ d from to. empty d from (omega arith)) h in
      let here : HeldIn at (c + k) None = empty (c + k) (omega arith) (omega arith) in
      subst (λ (d : ℕ). WrittenBelow at d ws vs n last) (omega arith) (below-next (c + k) here before)

  -- the lowest class that is left is next; where none is left, the commit is at its end
  pub below-lowest : (left : ClassSet) (i c : ℕ) → WrittenBelow at i ws vs n last → LeftFrom at left i → Lowest left c → WrittenBelow at c ws vs n last
  below-lowest left i c h from low =
      ⊎_elim
      (λ (l : c < i). absurd (true≢false (sym low.inside ∙ from.out c l)))
      (λ (g : i ≤ c).
      let to : i + (c - i) ≡ c = omega arith in
      subst (λ (d : ℕ). WrittenBelow at d ws vs n last) to
      (below-skip i (c - i) (λ d l r. from.empty d l (omega (arith, low.within)) (low.below d (omega arith))) h))
      (cases_lt c i)

  pub below-end : (left : ClassSet) (i : ℕ) → WrittenBelow at i ws vs n last → LeftFrom at left i → ((c : ℕ) → c < 16 → has left c ≡ false) → WrittenBelow at 16 ws vs n last
  below-end left i h from none =
      let to : i + (16 - i) ≡ 16 = omega (arith, from.within) in
      subst (λ (d : ℕ). WrittenBelow at d ws vs n last) to
      (below-skip i (16 - i) (λ d l r. from.empty d l (omega (arith, to)) (none d (omega (arith, to)))) h)

-- without its lowest class, a set is left from the class after that
pub left-next : (at : ℕ → Version) (left later : ClassSet) (i c : ℕ) → LeftFrom at left i → Lowest left c
    → ((d : ℕ) → d < 16 → has later d ≡ (not (eqb d c) && has left d)) → LeftFrom at later (c + 1)
left-next at left later i c from low rest = record {
  within = omega (arith, low.within);
  out = λ d l. ⊎_elim
      (λ (e : d ≡ c). rest d (omega (arith, low.within)) ∙ ap (λ (t : Bool). not t && has left d) (eq-eqb d c e))
      (λ (ne : d ≢ c). rest d (omega (arith, low.within)) ∙ (ap (λ (t : Bool). not t && has left d) (ne_eqb d c ne) ∙ low.below d (omega arith)))
      (cases_eq d c);
  empty = λ d l r out.
      let same : has later d ≡ has left d = rest d r ∙ ap (λ (t : Bool). not t && has left d) (ne_eqb d c (λ e. omega (arith, e))) in
      ⊎_elim
      (λ (low_i : c < i). absurd (true≢false (sym low.inside ∙ from.out c low_i)))
      (λ (g : i ≤ c). from.empty d (omega arith) r (sym same ∙ out))
      (cases_lt c i);
}

-- before the first class nothing is written, and a set of the task's classes is left from there
pub below-none : (at : ℕ → Version) (ws : List ℕ) (n : ℕ) (last : Option ℕ) → n ≡ 0 → last ≡ None → WrittenBelow at 0 ws ws n last
below-none at ws n last n-is last-is = record {
  words = sym (words-none at ws);
  count = n-is ∙ sym (count_none at (length ws));
  few = omega (arith, n-is);
  address = last-is;
}

pub left-first : (at : ℕ → Version) (left : ClassSet) → ((c : ℕ) → c < 16 → has left c ≡ false → HeldIn at c None) → LeftFrom at left 0
left-first at left empty = record {
  within = omega arith;
  out = λ d l. absurd (omega (arith, l));
  empty = λ d l r out. empty d r out;
}

-- what write_class wrote takes the commit one class further
pub below-written : (at : ℕ → Version) (c : ℕ) (ws vs later : List ℕ) (n m all : ℕ) (last o end : Option ℕ) → WrittenBelow at c ws vs n last
    → ClassWritten at c ws later m → m ≤ 1 → o ≡ of_class (λ a. is_own (at a)) c (length ws) → all ≡ n + m → end ≡ option_or o last → WrittenBelow at (c + 1) ws later all end
below-written at c ws vs later n m all last o end h law one o_is all-is end-is = record {
  words = law.words;
  count = all-is ∙ (ap (λ (k : ℕ). k + m) h.count ∙ sym law.count);
  few = omega (arith, h.few, one, all-is);
  address = last_on at (length ws) c o last end o_is h.address end-is;
}
