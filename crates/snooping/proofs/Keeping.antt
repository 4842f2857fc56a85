-- Lines that are as the words, the order and the versions demand stay so through every turn.
use Rattle.std.proofs.Common.{◌≡◌, ℕ, suc, ◌%◌, ◌<◌, ◌≤◌, Bool, true, false, cond, ◌&&◌, eqb, ◌⊎◌, List, [], ◌∷◌, ◌++◌, map, get_or, take, drop, Some, None, Option, sym, refl, ap, ◌∙◌, subst, inl, inr, ⊎_elim, arith}
use mathlib.Core.Path.{fun_ext}
use Rattle.std.specs.Option.{option_map, option_or}
use Rattle.std.proofs.lemmas.List.{drop-append-le, take-append-le}
use Rattle.std.proofs.lemmas.Bool.{eqb-true, eqb-false, eq-eqb, ne_eqb, cases_eq, cases_lt, cond-true, cond-false, true≢false, and_left, and_right, and_from}
use Rattle.versions.specs.declared.version.Version.{Version}
use Rattle.versions.specs.Orders.{place_in, Apart}
use Rattle.versions.specs.Tables.{Table, with_version, Fitting}
use Rattle.versions.specs.Versions.{no_version, is_held, is_own, seen_by}
use Rattle.snooping.specs.declared.line.Line.{Line}
use Rattle.snooping.specs.Grid.{LineTable, Linked, Pointing, table_by, with_line, holder}
use Rattle.snooping.specs.Lines.{blank, version_in, version_at, with_next}
use Rattle.versions.proofs.Classes.{unheld-none}
use Rattle.versions.proofs.Ordering.{none-some, place_in-cons}
use Rattle.versions.proofs.Tabling.{placed}
use Rattle.snooping.proofs.Holders.{holder-same, holder-found, holder-append, same-column, take-place, place-once, same_place}

-- a line that holds nothing is blank; the tag of one that does belongs to the line; its pointer names the next task in
-- order that holds the address; and a copy has the word that the tasks before see
pub record Laid (ws ps : List ℕ) (ls : LineTable) : Type 0 where
  pub bare : (q c : ℕ) → is_held (version_in (ls q c)) ≡ false → ls q c ≡ blank
  pub class : (q c : ℕ) → is_held (version_in (ls q c)) ≡ true → (ls q c).tag % 16 ≡ c
  pub next : (q k c : ℕ) → place_in ps q ≡ Some k → is_held (version_in (ls q c)) ≡ true → (ls q c).next ≡ holder (table_by ls) (ls q c).tag (drop (suc k) ps)
  pub word : (q k c : ℕ) → place_in ps q ≡ Some k → is_held (version_in (ls q c)) ≡ true → is_own (version_in (ls q c)) ≡ false
      → (ls q c).word ≡ seen_by (map (λ r. table_by ls r (ls q c).tag) (take k ps)) (get_or ws (ls q c).tag 0)

pub own-tag : (x : Line) → version_at x x.tag ≡ version_in x
own-tag x = cond-true (eqb x.tag x.tag) (version_in x) no_version (eq-eqb x.tag x.tag refl)

other_tag : (x : Line) (b : ℕ) → (x.tag ≡ b → ⊥) → version_at x b ≡ no_version
other_tag x b ne = cond-false (eqb x.tag b) (version_in x) no_version (ne_eqb x.tag b ne)

-- a line that holds shows in the table
pub shows : (ws ps : List ℕ) (ls : LineTable) → Laid ws ps ls → (q c : ℕ) → is_held (version_in (ls q c)) ≡ true → table_by ls q (ls q c).tag ≡ version_in (ls q c)
shows ws ps ls x q c held = ap (λ (d : ℕ). version_at (ls q d) (ls q c).tag) (x.class q c held) ∙ own-tag (ls q c)

-- what shows in the table is a line's
pub shown : (ls : LineTable) (q b : ℕ) → is_held (table_by ls q b) ≡ true → ((ls q (b % 16)).tag ≡ b) × (is_held (version_in (ls q (b % 16))) ≡ true)
shown ls q b held = go (eqb (ls q (b % 16)).tag b) refl held
  where
    go : (t : Bool) → eqb (ls q (b % 16)).tag b ≡ t → is_held (cond t (version_in (ls q (b % 16))) no_version) ≡ true → ((ls q (b % 16)).tag ≡ b) × (is_held (version_in (ls q (b % 16))) ≡ true)
    go true e h = (eqb-true (ls q (b % 16)).tag b e, h)
    go false e h = absurd (true≢false (sym h))

-- so the lines of an address point each to the next
pub laid-linked : (ws ps : List ℕ) (ls : LineTable) → Laid ws ps ls → (a : ℕ) → Linked ps a ls
laid-linked ws ps ls x a q k place held =
    let s = shown ls q a held in
    x.next q k (a % 16) place s.1 ∙ ap (λ (b : ℕ). holder (table_by ls) b (drop (suc k) ps)) s.0

-- and a line that another points to holds something
pub laid-pointing : (n : ℕ) (ws ps : List ℕ) (ls : LineTable) → Laid ws ps ls → Fitting n ps (table_by ls) → Pointing ls
laid-pointing n ws ps ls x fits q c r e = go (is_held (version_in (ls q c))) refl
  where
    placed-line : is_held (version_in (ls q c)) ≡ true → (o : Option ℕ) → place_in ps q ≡ o → is_held (version_in (ls r c)) ≡ true
    placed-line held None none =
        absurd (true≢false (sym (ap is_held (shows ws ps ls x q c held) ∙ held) ∙ ap is_held (fits.idle q none (ls q c).tag)))
    placed-line held (Some k) place =
        let found = holder-found (table_by ls) (ls q c).tag (drop (suc k) ps) r (sym (x.next q k c place held) ∙ e) in
        ap (λ (d : ℕ). is_held (version_in (ls r d))) (sym (x.class q c held)) ∙ (shown ls r (ls q c).tag found.1).1

    go : (t : Bool) → is_held (version_in (ls q c)) ≡ t → is_held (version_in (ls r c)) ≡ true
    go true held = placed-line held (place_in ps q) refl
    go false none = absurd (none-some r (sym e ∙ ap (λ (z : Line). z.next) (x.bare q c none)))

-- a start
module _ (ws ps : List ℕ) (ls : LineTable) (x : Laid ws ps ls) (p : ℕ) (idle : (b : ℕ) → table_by ls p b ≡ no_version) where
  push-place : (q k : ℕ) → place_in (ps ++ p ∷ []) q ≡ Some k → (place_in ps q ≡ Some k) ⊎ (p ≡ q)
  push-place q k e = go ps k e
    where
      go : (l : List ℕ) (k : ℕ) → place_in (l ++ p ∷ []) q ≡ Some k → (place_in l q ≡ Some k) ⊎ (p ≡ q)
      go [] k e = last (eqb p q) refl (sym (place_in-cons p [] q) ∙ e)
        where
          last : (t : Bool) → eqb p q ≡ t → cond t (Some 0) None ≡ Some k → (None ≡ Some k) ⊎ (p ≡ q)
          last true s f = inr (eqb-true p q s)
          last false s f = inl f
      go (r ∷ l) k e =
          ⊎_elim
          (λ (m : cond (eqb r q) (Some 0) (option_map suc (place_in l q)) ≡ Some k). inl (place_in-cons r l q ∙ m))
          (λ (m : p ≡ q). inr m)
          (here (eqb r q) (sym (place_in-cons r (l ++ p ∷ []) q) ∙ e) (place_in (l ++ p ∷ []) q) refl (λ j i. go l j i))
        where
          here : (t : Bool) → cond t (Some 0) (option_map suc (place_in (l ++ p ∷ []) q)) ≡ Some k → (o : Option ℕ) → place_in (l ++ p ∷ []) q ≡ o
              → ((j : ℕ) → place_in (l ++ p ∷ []) q ≡ Some j → (place_in l q ≡ Some j) ⊎ (p ≡ q)) → (cond t (Some 0) (option_map suc (place_in l q)) ≡ Some k) ⊎ (p ≡ q)
          here true f o i again = inl f
          here false f None i again = let g : None ≡ Some k = sym (ap (option_map suc) i) ∙ f in let z : ◌≡◌ {A = ℕ} 0 1 = cc in absurd (omega arith)
          here false f (Some j) i again =
              let g : Some (suc j) ≡ Some k = sym (ap (option_map suc) i) ∙ f in
              ⊎_elim (λ (m : place_in l q ≡ Some j). inl (ap (option_map suc) m ∙ g)) (λ (m : p ≡ q). inr m) (again j i)

  idle-line : (q c : ℕ) → p ≡ q → is_held (version_in (ls q c)) ≡ true → ⊥
  idle-line q c e held =
      true≢false (sym held ∙ (ap is_held (sym (shows ws ps ls x q c held)) ∙ (ap (λ (r : ℕ). is_held (table_by ls r (ls q c).tag)) (sym e) ∙ ap is_held (idle (ls q c).tag))))

  pub keep-start : Laid ws (ps ++ p ∷ []) ls
  keep-start = record {
    bare = x.bare;
    class = x.class;
    next = λ q k c place held. ⊎_elim (λ (m : place_in ps q ≡ Some k). same_next q k c m held) (λ (e : p ≡ q). absurd (idle-line q c e held)) (push-place q k place);
    word = λ q k c place held copy. ⊎_elim (λ (m : place_in ps q ≡ Some k). same_word q k c m held copy) (λ (e : p ≡ q). absurd (idle-line q c e held)) (push-place q k place);
  }
    where
      same_next : (q k c : ℕ) → place_in ps q ≡ Some k → is_held (version_in (ls q c)) ≡ true → (ls q c).next ≡ holder (table_by ls) (ls q c).tag (drop (suc k) (ps ++ p ∷ []))
      same_next q k c m held =
          let b = (ls q c).tag in
          let long = (placed ps q k m).within in
          x.next q k c m held
          ∙ sym (ap (holder (table_by ls) b) (drop-append-le (suc k) ps (p ∷ []) (omega (arith, long)))
          ∙ (holder-append (table_by ls) b (drop (suc k) ps) (p ∷ [])
          ∙ (ap (λ (v : Version). option_or (holder (table_by ls) b (drop (suc k) ps)) (cond (is_held v) (Some p) None)) (idle b) ∙ else-none (holder (table_by ls) b (drop (suc k) ps)))))
        where
          else-none : (o : Option ℕ) → option_or o None ≡ o
          else-none None = refl
          else-none (Some r) = refl

      same_word : (q k c : ℕ) → place_in ps q ≡ Some k → is_held (version_in (ls q c)) ≡ true → is_own (version_in (ls q c)) ≡ false
          → (ls q c).word ≡ seen_by (map (λ r. table_by ls r (ls q c).tag) (take k (ps ++ p ∷ []))) (get_or ws (ls q c).tag 0)
      same_word q k c m held copy =
          x.word q k c m held copy
          ∙ sym (ap (λ (l : List ℕ). seen_by (map (λ r. table_by ls r (ls q c).tag) l) (get_or ws (ls q c).tag 0)) (take-append-le k ps (p ∷ []) (omega (arith, (placed ps q k m).within))))

-- p's line for a is another now, and the lines of a are linked anew
module _ (ws ps : List ℕ) (ls : LineTable) (x : Laid ws ps ls) (apart : Apart ps) (p k₀ a : ℕ) (at_p : place_in ps p ≡ Some k₀) (y : Line) (tag_is : y.tag ≡ a)
    (y-held : is_held (version_in y) ≡ true) (free : is_held (version_in (ls p (a % 16))) ≡ true → (ls p (a % 16)).tag ≡ a) where
  abbrev pub mid : LineTable
  mid = with_line ls p (a % 16) y

  mid-here : mid p (a % 16) ≡ y
  mid-here = cond-true (eqb p p && eqb (a % 16) (a % 16)) y (ls p (a % 16)) (and_from (eqb p p) (eqb (a % 16) (a % 16)) (eq-eqb p p refl) (eq-eqb (a % 16) (a % 16) refl))

  mid-other : (q c : ℕ) → (q ≡ p → c ≡ a % 16 → ⊥) → mid q c ≡ ls q c
  mid-other q c ne = go (eqb q p) (eqb c (a % 16)) refl refl
    where
      go : (t u : Bool) → eqb q p ≡ t → eqb c (a % 16) ≡ u → cond (t && u) y (ls q c) ≡ ls q c
      go true true e f = absurd (ne (eqb-true q p e) (eqb-true c (a % 16) f))
      go true false e f = refl
      go false u e f = refl

  -- a line is p's for a, or as before
  which : (q c : ℕ) → ((q ≡ p) × (c ≡ a % 16)) ⊎ (q ≡ p → c ≡ a % 16 → ⊥)
  which q c =
      ⊎_elim
      (λ (e : q ≡ p). ⊎_elim (λ (f : c ≡ a % 16). inl (e, f)) (λ (f : c ≡ a % 16 → ⊥). inr (λ e' f'. f f')) (cases_eq c (a % 16)))
      (λ (e : q ≡ p → ⊥). inr (λ e' f'. e e'))
      (cases_eq q p)

  here-is : (q c : ℕ) → q ≡ p → c ≡ a % 16 → mid q c ≡ y
  here-is q c e f = ap (λ (r : ℕ). mid r c) e ∙ (ap (mid p) f ∙ mid-here)

  -- the versions: p's of a is another
  pub mid-table : table_by mid ≡ with_version (table_by ls) p a (version_in y)
  mid-table = fun_ext (λ q. fun_ext (λ b. go q b))
    where
      mine : (b : ℕ) → b % 16 ≡ a % 16 → (a ≡ b → ⊥) → table_by ls p b ≡ no_version
      mine b class ne = side (is_held (table_by ls p b)) refl
        where
          side : (t : Bool) → is_held (table_by ls p b) ≡ t → table_by ls p b ≡ no_version
          side true h =
              let s = shown ls p b h in
              let held : is_held (version_in (ls p (a % 16))) ≡ true = ap (λ (d : ℕ). is_held (version_in (ls p d))) (sym class) ∙ s.1 in
              absurd (ne (sym (free held) ∙ (ap (λ (d : ℕ). (ls p d).tag) (sym class) ∙ s.0)))
          side false h = unheld-none (table_by ls p b) h

      go : (q b : ℕ) → table_by mid q b ≡ with_version (table_by ls) p a (version_in y) q b
      go q b = cases (eqb q p) (eqb a b) refl refl
        where
          cases : (t u : Bool) → eqb q p ≡ t → eqb a b ≡ u → table_by mid q b ≡ cond (t && u) (version_in y) (table_by ls q b)
          cases false u e f = ap (λ (z : Line). version_at z b) (mid-other q (b % 16) (λ s. absurd (eqb-false q p e s)))
          cases true true e f =
              let same = eqb-true a b f in
              ap (λ (z : Line). version_at z b) (here-is q (b % 16) (eqb-true q p e) (ap (λ (r : ℕ). r % 16) (sym same)))
              ∙ (ap (version_at y) (sym (tag_is ∙ same)) ∙ own-tag y)
          cases true false e f =
              ⊎_elim
              (λ (class : b % 16 ≡ a % 16).
              ap (λ (z : Line). version_at z b) (here-is q (b % 16) (eqb-true q p e) class)
              ∙ (other_tag y b (λ s. eqb-false a b f (sym tag_is ∙ s))
              ∙ (sym (mine b class (eqb-false a b f)) ∙ ap (λ (r : ℕ). table_by ls r b) (sym (eqb-true q p e)))))
              (λ (class : b % 16 ≡ a % 16 → ⊥). ap (λ (z : Line). version_at z b) (mid-other q (b % 16) (λ s. class)))
              (cases_eq (b % 16) (a % 16))

  -- versions of other addresses and of other processors are as before
  elsewhere : (q b : ℕ) → (a ≡ b → ⊥) → table_by mid q b ≡ table_by ls q b
  elsewhere q b ne = ap (λ (t : Table). t q b) mid-table ∙ cond-false (eqb q p && eqb a b) (version_in y) (table_by ls q b) (and_right (eqb q p) (eqb a b) (ne_eqb a b ne))

  others : (q b : ℕ) → (q ≡ p → ⊥) → table_by mid q b ≡ table_by ls q b
  others q b ne = ap (λ (t : Table). t q b) mid-table ∙ cond-false (eqb q p && eqb a b) (version_in y) (table_by ls q b) (and_left (eqb q p) (eqb a b) (ne_eqb q p ne))

  -- before p's place p does not stand
  not-before : (k r j : ℕ) → k ≤ k₀ → place_in (take k ps) r ≡ Some j → r ≡ p → ⊥
  not-before k r j le e same =
      let t = take-place k ps r j e in
      let at : place_in ps p ≡ Some j = ap (place_in ps) (sym same) ∙ t.0 in
      omega (arith, place-once ps p j k₀ at at_p, t.1)

  module _ (new : LineTable)
      (bits : (q c : ℕ) → with_next (new q c) None ≡ with_next (mid q c) None)
      (off : (q c : ℕ) → is_held (version_in (mid q c)) ≡ true → ((mid q c).tag ≡ a → ⊥) → (new q c).next ≡ (mid q c).next)
      (empty : (q c : ℕ) → is_held (version_in (mid q c)) ≡ false → new q c ≡ mid q c)
      (on : (q k : ℕ) → place_in ps q ≡ Some k → is_held (table_by mid q a) ≡ true → (new q (a % 16)).next ≡ holder (table_by mid) a (drop (suc k) ps))
      (mine : is_own (version_in y) ≡ false → y.word ≡ seen_by (map (λ r. table_by ls r a) (take k₀ ps)) (get_or ws a 0))
      (later : (q k : ℕ) → place_in ps q ≡ Some k → k₀ < k → is_held (table_by ls q a) ≡ true → is_own (table_by ls q a) ≡ false
      → seen_by (map (λ r. table_by mid r a) (take k ps)) (get_or ws a 0) ≡ seen_by (map (λ r. table_by ls r a) (take k ps)) (get_or ws a 0)) where
    same_version : (q c : ℕ) → version_in (new q c) ≡ version_in (mid q c)
    same_version q c = ap version_in (bits q c)

    same_tag : (q c : ℕ) → (new q c).tag ≡ (mid q c).tag
    same_tag q c = ap (λ (z : Line). z.tag) (bits q c)

    pub new-table : table_by new ≡ table_by mid
    new-table = fun_ext (λ q. fun_ext (λ b. ap (λ (z : Line). version_at z b) (bits q (b % 16))))

    new-class : (q c : ℕ) → is_held (version_in (mid q c)) ≡ true → (mid q c).tag % 16 ≡ c
    new-class q c held =
        ⊎_elim
        (λ (e : (q ≡ p) × (c ≡ a % 16)). ap (λ (z : Line). z.tag % 16) (here-is q c e.0 e.1) ∙ (ap (λ (r : ℕ). r % 16) tag_is ∙ sym e.1))
        (λ (ne : q ≡ p → c ≡ a % 16 → ⊥). let e = mid-other q c ne in ap (λ (z : Line). z.tag % 16) e ∙ x.class q c (ap (λ (z : Line). is_held (version_in z)) (sym e) ∙ held))
        (which q c)

    new-bare : (q c : ℕ) → is_held (version_in (new q c)) ≡ false → new q c ≡ blank
    new-bare q c none =
        let mid_none : is_held (version_in (mid q c)) ≡ false = ap is_held (sym (same_version q c)) ∙ none in
        ⊎_elim
        (λ (e : (q ≡ p) × (c ≡ a % 16)). absurd (true≢false (sym y-held ∙ (ap (λ (z : Line). is_held (version_in z)) (sym (here-is q c e.0 e.1)) ∙ mid_none))))
        (λ (ne : q ≡ p → c ≡ a % 16 → ⊥). let e = mid-other q c ne in empty q c mid_none ∙ (e ∙ x.bare q c (ap (λ (z : Line). is_held (version_in z)) (sym e) ∙ mid_none)))
        (which q c)

    next-mid : (q k c : ℕ) → place_in ps q ≡ Some k → is_held (version_in (mid q c)) ≡ true → (new q c).next ≡ holder (table_by mid) (mid q c).tag (drop (suc k) ps)
    next-mid q k c place held =
        ⊎_elim
        (λ (e : (mid q c).tag ≡ a).
        let class : a % 16 ≡ c = ap (λ (r : ℕ). r % 16) (sym e) ∙ new-class q c held in
        let at_a : is_held (table_by mid q a) ≡ true = ap (λ (d : ℕ). is_held (version_at (mid q d) a)) class ∙ (ap (λ (r : ℕ). is_held (version_at (mid q c) r)) (sym e) ∙ (ap is_held (own-tag (mid q c)) ∙ held)) in
        ap (λ (d : ℕ). (new q d).next) (sym class) ∙ (on q k place at_a ∙ ap (λ (r : ℕ). holder (table_by mid) r (drop (suc k) ps)) (sym e)))
        (λ (e : (mid q c).tag ≡ a → ⊥).
        let kept : mid q c ≡ ls q c = mid-other q c (λ s f. e (ap (λ (z : Line). z.tag) (here-is q c s f) ∙ tag_is)) in
        let b = (ls q c).tag in
        let far : a ≡ b → ⊥ = λ s. e (ap (λ (z : Line). z.tag) kept ∙ sym s) in
        off q c held e
        ∙ (ap (λ (z : Line). z.next) kept
        ∙ (x.next q k c place (ap (λ (z : Line). is_held (version_in z)) (sym kept) ∙ held)
        ∙ (sym (holder-same (table_by mid) (table_by ls) b (drop (suc k) ps) (λ r j i. ap is_held (elsewhere r b far)))
        ∙ ap (λ (z : Line). holder (table_by mid) z.tag (drop (suc k) ps)) (sym kept)))))
        (cases_eq (mid q c).tag a)

    word-mid : (q k c : ℕ) → place_in ps q ≡ Some k → is_held (version_in (mid q c)) ≡ true → is_own (version_in (mid q c)) ≡ false
        → (mid q c).word ≡ seen_by (map (λ r. table_by mid r (mid q c).tag) (take k ps)) (get_or ws (mid q c).tag 0)
    word-mid q k c place held copy =
        ⊎_elim
        (λ (e : (q ≡ p) × (c ≡ a % 16)).
        let is = here-is q c e.0 e.1 in
        let k-is : k ≡ k₀ = place-once ps p k k₀ (ap (place_in ps) (sym e.0) ∙ place) at_p in
        let tag-a : a ≡ (mid q c).tag = sym (ap (λ (z : Line). z.tag) is ∙ tag_is) in
        ap (λ (z : Line). z.word) is
        ∙ (mine (ap (λ (z : Line). is_own (version_in z)) (sym is) ∙ copy)
        ∙ (ap (λ (l : List Version). seen_by l (get_or ws a 0)) (same-column (λ r. table_by ls r a) (λ r. table_by mid r a) (take k₀ ps) (λ r j i. sym (others r a (not-before k₀ r j (omega arith) i))))
        ∙ (ap (λ (m : ℕ). seen_by (map (λ r. table_by mid r a) (take m ps)) (get_or ws a 0)) (sym k-is)
        ∙ ap (λ (b : ℕ). seen_by (map (λ r. table_by mid r b) (take k ps)) (get_or ws b 0)) tag-a))))
        (λ (ne : q ≡ p → c ≡ a % 16 → ⊥).
        let kept = mid-other q c ne in
        let ls-held : is_held (version_in (ls q c)) ≡ true = ap (λ (z : Line). is_held (version_in z)) (sym kept) ∙ held in
        let ls-copy : is_own (version_in (ls q c)) ≡ false = ap (λ (z : Line). is_own (version_in z)) (sym kept) ∙ copy in
        ap (λ (z : Line). z.word) kept
        ∙ (x.word q k c place ls-held ls-copy
        ∙ (sym (unmoved q k c place ls-held ls-copy ne)
        ∙ ap (λ (r : ℕ). seen_by (map (λ t. table_by mid t r) (take k ps)) (get_or ws r 0)) (ap (λ (z : Line). z.tag) (sym kept)))))
        (which q c)
      where
        unmoved : (q k c : ℕ) → place_in ps q ≡ Some k → is_held (version_in (ls q c)) ≡ true → is_own (version_in (ls q c)) ≡ false → (q ≡ p → c ≡ a % 16 → ⊥)
            → seen_by (map (λ r. table_by mid r (ls q c).tag) (take k ps)) (get_or ws (ls q c).tag 0) ≡ seen_by (map (λ r. table_by ls r (ls q c).tag) (take k ps)) (get_or ws (ls q c).tag 0)
        unmoved q k c place held copy ne =
            ⊎_elim
            (λ (e : (ls q c).tag ≡ a).
            let class : c ≡ a % 16 = sym (x.class q c held) ∙ ap (λ (r : ℕ). r % 16) e in
            let far : q ≡ p → ⊥ = λ s. ne s class in
            let shows-a : table_by ls q a ≡ version_in (ls q c) = ap (table_by ls q) (sym e) ∙ shows ws ps ls x q c held in
            subst (λ (b : ℕ). seen_by (map (λ r. table_by mid r b) (take k ps)) (get_or ws b 0) ≡ seen_by (map (λ r. table_by ls r b) (take k ps)) (get_or ws b 0)) (sym e)
            (⊎_elim
            (λ (lt : k < k₀). ap (λ (l : List Version). seen_by l (get_or ws a 0)) (same-column (λ r. table_by mid r a) (λ r. table_by ls r a) (take k ps) (λ r j i. others r a (not-before k r j (omega arith) i))))
            (λ (le : k₀ ≤ k). later q k place (beyond k le (λ s. far (same_place ps q p k₀ (place ∙ ap Some s) at_p))) (ap is_held shows-a ∙ held) (ap is_own shows-a ∙ copy))
            (cases_lt k k₀)))
            (λ (e : (ls q c).tag ≡ a → ⊥).
            ap (λ (l : List Version). seen_by l (get_or ws (ls q c).tag 0))
            (same-column (λ r. table_by mid r (ls q c).tag) (λ r. table_by ls r (ls q c).tag) (take k ps) (λ r j i. elsewhere r (ls q c).tag (λ s. e (sym s)))))
            (cases_eq (ls q c).tag a)
          where
            beyond : (k : ℕ) → k₀ ≤ k → (k ≡ k₀ → ⊥) → k₀ < k
            beyond k le ne = omega arith

    pub keep-change : Laid ws ps new
    keep-change = record {
      bare = new-bare;
      class = λ q c held. ap (λ (r : ℕ). r % 16) (same_tag q c) ∙ new-class q c (ap is_held (sym (same_version q c)) ∙ held);
      next = λ q k c place held.
          next-mid q k c place (ap is_held (sym (same_version q c)) ∙ held)
          ∙ sym (ap (λ (t : Table). holder t (new q c).tag (drop (suc k) ps)) new-table ∙ ap (λ (r : ℕ). holder (table_by mid) r (drop (suc k) ps)) (same_tag q c));
      word = λ q k c place held copy.
          ap (λ (z : Line). z.word) (bits q c)
          ∙ (word-mid q k c place (ap is_held (sym (same_version q c)) ∙ held) (ap is_own (sym (same_version q c)) ∙ copy)
          ∙ sym (ap (λ (t : Table). seen_by (map (λ r. t r (new q c).tag) (take k ps)) (get_or ws (new q c).tag 0)) new-table
          ∙ ap (λ (b : ℕ). seen_by (map (λ r. table_by mid r b) (take k ps)) (get_or ws b 0)) (same_tag q c)));
    }
