-- The lines of one address pointed anew, each to the next in task order: what that makes of each line.
use Rattle.std.proofs.Common.{◌≡◌, ℕ, suc, ◌%◌, Bool, true, false, cond, ◌&&◌, eqb, List, [], ◌∷◌, drop, Some, None, Option, sym, refl, ap, ◌∙◌, arith}
use mathlib.Core.Path.{fun_ext}
use Rattle.std.specs.Option.{option_map}
use Rattle.std.proofs.lemmas.Bool.{eqb-true, eqb-false, eq-eqb, cond-true, cond-false, and_left, and_right}
use Rattle.versions.specs.Orders.{place_in, Apart}
use Rattle.versions.specs.Tables.{Table}
use Rattle.versions.specs.Versions.{is_held}
use Rattle.versions.proofs.Ordering.{place_none, place_in-cons}
use Rattle.snooping.specs.declared.line.Line.{Line}
use Rattle.snooping.specs.Grid.{LineTable, Tagged, table_by, with_line, holder, linked, relinked}
use Rattle.snooping.specs.Lines.{version_in, version_at, with_next}

-- what does not look at pointers does not see a link
module _ {B : Type 0} (F : Line → B) (blind : (x : Line) (n : Option ℕ) → F (with_next x n) ≡ F x) where
  pub link-same : (ls : LineTable) (p c : ℕ) (n : Option ℕ) (q d : ℕ) → F (with_line ls p c (with_next (ls p c) n) q d) ≡ F (ls q d)
  link-same ls p c n q d = go (eqb q p) (eqb d c) refl refl
    where
      go : (t u : Bool) → eqb q p ≡ t → eqb d c ≡ u → F (cond (t && u) (with_next (ls p c) n) (ls q d)) ≡ F (ls q d)
      go true true e f = blind (ls p c) n ∙ (ap (λ (r : ℕ). F (ls r c)) (sym (eqb-true q p e)) ∙ ap (λ (r : ℕ). F (ls q r)) (sym (eqb-true d c f)))
      go true false e f = refl
      go false u e f = refl

  linked-same : (ls : LineTable) (p a : ℕ) (n : Option ℕ) (q d : ℕ) → F (linked ls p a n q d) ≡ F (ls q d)
  linked-same ls p a n q d = go (is_held (table_by ls p a))
    where
      go : (t : Bool) → F (cond t (with_line ls p (a % 16) (with_next (ls p (a % 16)) n)) ls q d) ≡ F (ls q d)
      go true = link-same ls p (a % 16) n q d
      go false = refl

  pub relinked-same : (ps : List ℕ) (a : ℕ) (ls : LineTable) (q d : ℕ) → F (relinked ps a ls q d) ≡ F (ls q d)
  relinked-same [] a ls q d = refl
  relinked-same (p ∷ ps) a ls q d = linked-same (relinked ps a ls) p a (holder (table_by ls) a ps) q d ∙ relinked-same ps a ls q d

pub relinked-table : (ps : List ℕ) (a : ℕ) (ls : LineTable) → table_by (relinked ps a ls) ≡ table_by ls
relinked-table ps a ls = fun_ext (λ q. fun_ext (λ b. relinked-same (λ x. version_at x b) (λ x n. refl) ps a ls q (b % 16)))

-- tags stay in their lines where one takes an address of its own
pub tagged-taken : (ls : LineTable) (p a : ℕ) (y : Line) → y.tag ≡ a → Tagged ls → Tagged (with_line ls p (a % 16) y)
tagged-taken ls p a y tag tagged = λ q d. go q d (eqb q p) (eqb d (a % 16)) refl
  where
    go : (q d : ℕ) (t u : Bool) → eqb d (a % 16) ≡ u → is_held (version_in (cond (t && u) y (ls q d))) ≡ true → (cond (t && u) y (ls q d)).tag % 16 ≡ d
    go q d true true e held = ap (λ (b : ℕ). b % 16) tag ∙ sym (eqb-true d (a % 16) e)
    go q d true false e held = tagged q d held
    go q d false u e held = tagged q d held

-- tags stay in their lines where one is linked
pub tagged-link : (ls : LineTable) (p c : ℕ) (n : Option ℕ) → Tagged ls → Tagged (with_line ls p c (with_next (ls p c) n))
tagged-link ls p c n tagged = λ q d held. link-same (λ x. x.tag % 16) (λ x n. refl) ls p c n q d ∙ tagged q d (sym (link-same (λ x. is_held (version_in x)) (λ x n. refl) ls p c n q d) ∙ held)

linked-other : (ls : LineTable) (p a : ℕ) (n : Option ℕ) (q d : ℕ) → (eqb q p && eqb d (a % 16)) ≡ false → linked ls p a n q d ≡ ls q d
linked-other ls p a n q d e = go (is_held (table_by ls p a))
  where
    go : (t : Bool) → cond t (with_line ls p (a % 16) (with_next (ls p (a % 16)) n)) ls q d ≡ ls q d
    go true = cond-false (eqb q p && eqb d (a % 16)) (with_next (ls p (a % 16)) n) (ls q d) e
    go false = refl

pub relinked-other : (ps : List ℕ) (a : ℕ) (ls : LineTable) (q d : ℕ) → place_in ps q ≡ None → relinked ps a ls q d ≡ ls q d
relinked-other [] a ls q d none = refl
relinked-other (p ∷ ps) a ls q d none =
    let n = place_none p ps q none in
    linked-other (relinked ps a ls) p a (holder (table_by ls) a ps) q d (and_left (eqb q p) (eqb d (a % 16)) (swap (eqb q p) refl (eqb-false p q n.0)))
    ∙ relinked-other ps a ls q d n.1
  where
    swap : (t : Bool) → eqb q p ≡ t → (p ≡ q → ⊥) → eqb q p ≡ false
    swap true e ne = absurd (ne (sym (eqb-true q p e)))
    swap false e ne = e

pub relinked-class : (ps : List ℕ) (a : ℕ) (ls : LineTable) (q d : ℕ) → eqb d (a % 16) ≡ false → relinked ps a ls q d ≡ ls q d
relinked-class [] a ls q d other = refl
relinked-class (p ∷ ps) a ls q d other =
    linked-other (relinked ps a ls) p a (holder (table_by ls) a ps) q d (and_right (eqb q p) (eqb d (a % 16)) other) ∙ relinked-class ps a ls q d other

pub relinked-unheld : (ps : List ℕ) (a : ℕ) (ls : LineTable) (q d : ℕ) → is_held (table_by ls q a) ≡ false → relinked ps a ls q d ≡ ls q d
relinked-unheld [] a ls q d no_line = refl
relinked-unheld (p ∷ ps) a ls q d no_line = go (eqb q p) refl ∙ relinked-unheld ps a ls q d no_line
  where
    go : (t : Bool) → eqb q p ≡ t → relinked (p ∷ ps) a ls q d ≡ relinked ps a ls q d
    go true e =
        let now = relinked ps a ls in
        let same : is_held (table_by now p a) ≡ false = ap (λ (t : Table). is_held (t p a)) (relinked-table ps a ls) ∙ (ap (λ (r : ℕ). is_held (table_by ls r a)) (sym (eqb-true q p e)) ∙ no_line) in
        ap (λ (t : Bool). cond t (with_line now p (a % 16) (with_next (now p (a % 16)) (holder (table_by ls) a ps))) now q d) same
    go false e = linked-other (relinked ps a ls) p a (holder (table_by ls) a ps) q d (and_left (eqb q p) (eqb d (a % 16)) e)

pub relinked-held : (ps : List ℕ) (a : ℕ) (ls : LineTable) (q k : ℕ) → Apart ps → place_in ps q ≡ Some k → is_held (table_by ls q a) ≡ true
    → relinked ps a ls q (a % 16) ≡ with_next (ls q (a % 16)) (holder (table_by ls) a (drop (suc k) ps))
relinked-held [] a ls q k apart place has-line = let z : ◌≡◌ {A = ℕ} 0 1 = cc in absurd (omega arith)
relinked-held (p ∷ ps) a ls q k apart place has-line =
    go (eqb p q) refl (sym (place_in-cons p ps q) ∙ place) (place_in ps q) refl (λ j i. relinked-held ps a ls q j apart.2 i has-line)
  where
    now : LineTable
    now = relinked ps a ls

    go : (t : Bool) → eqb p q ≡ t → cond t (Some 0) (option_map suc (place_in ps q)) ≡ Some k → (o : Option ℕ) → place_in ps q ≡ o
        → ((j : ℕ) → place_in ps q ≡ Some j → now q (a % 16) ≡ with_next (ls q (a % 16)) (holder (table_by ls) a (drop (suc j) ps)))
        → relinked (p ∷ ps) a ls q (a % 16) ≡ with_next (ls q (a % 16)) (holder (table_by ls) a (drop k ps))
    go true e f o i again =
        let zero_is : 0 ≡ k = cc in
        let same = eqb-true p q e in
        let held : is_held (table_by now p a) ≡ true = ap (λ (t : Table). is_held (t p a)) (relinked-table ps a ls) ∙ (ap (λ (r : ℕ). is_held (table_by ls r a)) same ∙ has-line) in
        let n = holder (table_by ls) a ps in
        let mine : now p (a % 16) ≡ ls q (a % 16) = relinked-other ps a ls p (a % 16) apart.1 ∙ ap (λ (r : ℕ). ls r (a % 16)) same in
        ap (λ (t : Bool). cond t (with_line now p (a % 16) (with_next (now p (a % 16)) n)) now q (a % 16)) held
        ∙ (cond-true (eqb q p && eqb (a % 16) (a % 16)) (with_next (now p (a % 16)) n) (now q (a % 16)) (both (eq-eqb q p (sym same)) (eq-eqb (a % 16) (a % 16) refl))
        ∙ (ap (λ (x : Line). with_next x n) mine ∙ ap (λ (j : ℕ). with_next (ls q (a % 16)) (holder (table_by ls) a (drop j ps))) zero_is))
      where
        both : eqb q p ≡ true → eqb (a % 16) (a % 16) ≡ true → (eqb q p && eqb (a % 16) (a % 16)) ≡ true
        both x y = ap (λ (t : Bool). t && eqb (a % 16) (a % 16)) x ∙ y
    go false e f None i again = let g : None ≡ Some k = sym (ap (option_map suc) i) ∙ f in let z : ◌≡◌ {A = ℕ} 0 1 = cc in absurd (omega arith)
    go false e f (Some j) i again =
        let g : Some (suc j) ≡ Some k = sym (ap (option_map suc) i) ∙ f in
        let same : suc j ≡ k = cc in
        linked-other now p a (holder (table_by ls) a ps) q (a % 16) (and_left (eqb q p) (eqb (a % 16) (a % 16)) (swap (eqb q p) refl (eqb-false p q e)))
        ∙ (again j i ∙ ap (λ (m : ℕ). with_next (ls q (a % 16)) (holder (table_by ls) a (drop m ps))) same)
      where
        swap : (t : Bool) → eqb q p ≡ t → (p ≡ q → ⊥) → eqb q p ≡ false
        swap true x ne = absurd (ne (sym (eqb-true q p x)))
        swap false x ne = x
