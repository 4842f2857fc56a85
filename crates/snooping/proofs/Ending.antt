-- Lines that are as the words, the order and the versions demand stay so when tasks are squashed, the head commits, or
-- the head replaces an address.
use Rattle.std.proofs.Common.{◌≡◌, ℕ, zero, suc, ◌%◌, ◌<◌, ◌≤◌, Bool, true, false, cond, ◌&&◌, eqb, ◌⊎◌, List, ◌∷◌, ◌++◌, map, length, get_or, take, drop, set, is_some, Some, None, Option, unwrap_or, sym, refl, ap, ◌∙◌, inl, inr, ⊎_elim, arith}
use mathlib.Core.Path.{fun_ext}
use Rattle.std.specs.Option.{option_or}
use Rattle.std.proofs.lemmas.List.{drop-append-le, take-take, take-append-drop, get_or-set_same, get_or-set_other}
use Rattle.std.proofs.lemmas.Bool.{eqb-true, eqb-false, eq-eqb, ne_eqb, cases_eq, cond-true, cond-false, true≢false, and_right, and_from}
use Rattle.versions.specs.declared.version.Version.{Version}
use Rattle.versions.specs.Orders.{place_in, Apart}
use Rattle.versions.specs.Plain.{laid_over_all, written_to}
use Rattle.versions.specs.Tables.{Table, with_version, without, without_all, Fitting}
use Rattle.versions.specs.Versions.{no_version, is_held, is_own, laid_over, seen_by}
use Rattle.snooping.specs.declared.line.Line.{Line}
use Rattle.snooping.specs.declared.state.LineEvent.TheVariants.{Commit}
use Rattle.snooping.specs.Grid.{LineTable, table_by, with_line, with_cache, holder, cut_to}
use Rattle.snooping.specs.Lines.{blank, version_in, version_at, pointer_to, unlinked, ended}
use Rattle.versions.proofs.Classes.{unheld-none}
use Rattle.versions.proofs.Fits.{without_all-value, front_out, none-join, none-drop}
use Rattle.versions.proofs.Holding.{get_or-laid_over_all}
use Rattle.versions.proofs.Ordering.{none-some, place-later}
use Rattle.versions.proofs.Tabling.{placed}
use Rattle.snooping.proofs.Holders.{holder-same, holder-append, holder-found, same-column, take-place, place-value}
use Rattle.snooping.proofs.Keeping.{Laid, shows}

blank_none : (b : ℕ) → version_at blank b ≡ no_version
blank_none b = go (eqb 0 b)
  where
    go : (t : Bool) → cond t no_version no_version ≡ no_version
    go true = refl
    go false = refl

found_from : (o : Option ℕ) → is_some o ≡ true → (j : ℕ) × (o ≡ Some j)
found_from None e = absurd (true≢false (sym e))
found_from (Some j) e = (j, refl)

none_found : (o : Option ℕ) → is_some o ≡ false → o ≡ None
none_found None e = refl
none_found (Some j) e = absurd (true≢false e)

-- who is in the rest of a list is in the list
drop-in : (i : ℕ) (xs : List ℕ) (r : ℕ) → is_some (place_in (drop i xs) r) ≡ true → is_some (place_in xs r) ≡ true
drop-in i xs r e = go (place_in xs r) refl
  where
    go : (o : Option ℕ) → place_in xs r ≡ o → is_some o ≡ true
    go None n = absurd (true≢false (sym e ∙ ap is_some (none-drop i xs r n)))
    go (Some k) n = refl

-- a write elsewhere leaves the word
word-apart : (a b : ℕ) (ws : List ℕ) → (a ≡ b → ⊥) → (o : Option ℕ) → get_or (written_to o a ws) b 0 ≡ get_or ws b 0
word-apart a b ws ne None = refl
word-apart a b ws ne (Some w) = get_or-set_other ws a b w 0 (λ s. ne (sym s))

-- the tasks from place m on are cut off
module _ (ws ps : List ℕ) (ls : LineTable) (x : Laid ws ps ls) (apart : Apart ps) (n : ℕ) (fits : Fitting n ps (table_by ls)) (m : ℕ) where
  in-front : (q c : ℕ) → is_some (place_in (take m ps) q) ≡ true → cut_to (take m ps) ls q c ≡ unlinked (take m ps) (ls q c)
  in-front q c e = cond-true (is_some (place_in (take m ps) q)) (unlinked (take m ps) (ls q c)) blank e

  out-front : (q c : ℕ) → is_some (place_in (take m ps) q) ≡ false → cut_to (take m ps) ls q c ≡ blank
  out-front q c e = cond-false (is_some (place_in (take m ps) q)) (unlinked (take m ps) (ls q c)) blank e

  front-version : (q b : ℕ) → is_some (place_in (take m ps) q) ≡ true → table_by (cut_to (take m ps) ls) q b ≡ table_by ls q b
  front-version q b e = ap (λ (z : Line). version_at z b) (in-front q (b % 16) e)

  pub cut-table : table_by (cut_to (take m ps) ls) ≡ without_all (table_by ls) (drop m ps)
  cut-table = fun_ext (λ q. fun_ext (λ b. go q b (is_some (place_in (take m ps) q)) refl ∙ sym (without_all-value (table_by ls) (drop m ps) q b)))
    where
      gone : (q b : ℕ) → place_in (take m ps) q ≡ None → (o : Option ℕ) → place_in (drop m ps) q ≡ o → no_version ≡ cond (is_some o) no_version (table_by ls q b)
      gone q b e None f = sym (fits.idle q (none-join m ps q e f) b)
      gone q b e (Some j) f = refl

      go : (q b : ℕ) (t : Bool) → is_some (place_in (take m ps) q) ≡ t → table_by (cut_to (take m ps) ls) q b ≡ cond (is_some (place_in (drop m ps) q)) no_version (table_by ls q b)
      go q b true e =
          let f = found_from (place_in (take m ps) q) e in
          front-version q b e ∙ sym (ap (λ (o : Option ℕ). cond (is_some o) no_version (table_by ls q b)) (front_out m ps q f.0 apart f.1))
      go q b false e = ap (λ (z : Line). version_at z b) (out-front q (b % 16) e) ∙ (blank_none b ∙ gone q b (none_found (place_in (take m ps) q) e) (place_in (drop m ps) q) refl)

  -- a pointer of the front stays if it points into the front
  kept-pointer : (k b : ℕ) → suc k ≤ length (take m ps) → pointer_to (take m ps) (holder (table_by ls) b (drop (suc k) ps)) ≡ holder (table_by ls) b (drop (suc k) (take m ps))
  kept-pointer k b le =
      let parts : drop (suc k) ps ≡ drop (suc k) (take m ps) ++ drop m ps = ap (drop (suc k)) (sym (take-append-drop m ps)) ∙ drop-append-le (suc k) (take m ps) (drop m ps) le in
      ap (λ (l : List ℕ). pointer_to (take m ps) (holder (table_by ls) b l)) parts
      ∙ (ap (pointer_to (take m ps)) (holder-append (table_by ls) b (drop (suc k) (take m ps)) (drop m ps))
      ∙ go (holder (table_by ls) b (drop (suc k) (take m ps))) refl (holder (table_by ls) b (drop m ps)) refl)
    where
      go : (o : Option ℕ) → holder (table_by ls) b (drop (suc k) (take m ps)) ≡ o → (u : Option ℕ) → holder (table_by ls) b (drop m ps) ≡ u → pointer_to (take m ps) (option_or o u) ≡ o
      go (Some r) e u f = cond-true (is_some (place_in (take m ps) r)) (Some r) None (drop-in (suc k) (take m ps) r (holder-found (table_by ls) b (drop (suc k) (take m ps)) r e).0)
      go None e None f = refl
      go None e (Some r) f = away (is_some (place_in (take m ps) r)) refl
        where
          away : (t : Bool) → is_some (place_in (take m ps) r) ≡ t → cond t (Some r) None ≡ None
          away true s =
              let i = found_from (place_in (take m ps) r) s in
              absurd (true≢false (sym (holder-found (table_by ls) b (drop m ps) r f).0 ∙ ap is_some (front_out m ps r i.0 apart i.1)))
          away false s = refl

  pub keep-cut : Laid ws (take m ps) (cut_to (take m ps) ls)
  keep-cut = record {
    bare = λ q c none. bare q c (is_some (place_in (take m ps) q)) refl none;
    class = λ q c held. class q c (is_some (place_in (take m ps) q)) refl held;
    next = next;
    word = word;
  }
    where
      bare : (q c : ℕ) (t : Bool) → is_some (place_in (take m ps) q) ≡ t → is_held (version_in (cut_to (take m ps) ls q c)) ≡ false → cut_to (take m ps) ls q c ≡ blank
      bare q c true e none =
          let is = in-front q c e in
          is ∙ ap (unlinked (take m ps)) (x.bare q c (ap (λ (z : Line). is_held (version_in z)) (sym is) ∙ none))
      bare q c false e none = out-front q c e

      class : (q c : ℕ) (t : Bool) → is_some (place_in (take m ps) q) ≡ t → is_held (version_in (cut_to (take m ps) ls q c)) ≡ true → (cut_to (take m ps) ls q c).tag % 16 ≡ c
      class q c true e held =
          let is = in-front q c e in
          ap (λ (z : Line). z.tag % 16) is ∙ x.class q c (ap (λ (z : Line). is_held (version_in z)) (sym is) ∙ held)
      class q c false e held = absurd (true≢false (sym held ∙ ap (λ (z : Line). is_held (version_in z)) (out-front q c e)))

      next : (q k c : ℕ) → place_in (take m ps) q ≡ Some k → is_held (version_in (cut_to (take m ps) ls q c)) ≡ true
          → (cut_to (take m ps) ls q c).next ≡ holder (table_by (cut_to (take m ps) ls)) (cut_to (take m ps) ls q c).tag (drop (suc k) (take m ps))
      next q k c place held =
          let is = in-front q c (ap is_some place) in
          let b = (ls q c).tag in
          let t = take-place m ps q k place in
          ap (λ (z : Line). z.next) is
          ∙ (ap (pointer_to (take m ps)) (x.next q k c t.0 (ap (λ (z : Line). is_held (version_in z)) (sym is) ∙ held))
          ∙ (kept-pointer k b (placed (take m ps) q k place).within
          ∙ (sym (holder-same (table_by (cut_to (take m ps) ls)) (table_by ls) b (drop (suc k) (take m ps)) (λ r j i. ap is_held (front-version r b (drop-in (suc k) (take m ps) r (ap is_some i)))))
          ∙ ap (λ (z : Line). holder (table_by (cut_to (take m ps) ls)) z.tag (drop (suc k) (take m ps))) (sym is))))

      word : (q k c : ℕ) → place_in (take m ps) q ≡ Some k → is_held (version_in (cut_to (take m ps) ls q c)) ≡ true → is_own (version_in (cut_to (take m ps) ls q c)) ≡ false
          → (cut_to (take m ps) ls q c).word ≡ seen_by (map (λ r. table_by (cut_to (take m ps) ls) r (cut_to (take m ps) ls q c).tag) (take k (take m ps))) (get_or ws (cut_to (take m ps) ls q c).tag 0)
      word q k c place held copy =
          let is = in-front q c (ap is_some place) in
          let b = (ls q c).tag in
          let t = take-place m ps q k place in
          ap (λ (z : Line). z.word) is
          ∙ (x.word q k c t.0 (ap (λ (z : Line). is_held (version_in z)) (sym is) ∙ held) (ap (λ (z : Line). is_own (version_in z)) (sym is) ∙ copy)
          ∙ (ap (λ (l : List ℕ). seen_by (map (λ r. table_by ls r b) l) (get_or ws b 0)) (sym (take-take k m ps (omega (arith, t.1))))
          ∙ (ap (λ (l : List Version). seen_by l (get_or ws b 0))
          (same-column (λ r. table_by ls r b) (λ r. table_by (cut_to (take m ps) ls) r b) (take k (take m ps)) (λ r j i. sym (front-version r b (ap is_some (take-place k (take m ps) r j i).0))))
          ∙ ap (λ (z : Line). seen_by (map (λ r. table_by (cut_to (take m ps) ls) r z.tag) (take k (take m ps))) (get_or ws z.tag 0)) (sym is))))

-- the head ends
module _ (ws : List ℕ) (p : ℕ) (rest : List ℕ) (ls : LineTable) (x : Laid ws (p ∷ rest) ls) (apart : Apart (p ∷ rest)) (fits : Fitting (length ws) (p ∷ rest) (table_by ls)) where
  later-is : (q k : ℕ) → place_in rest q ≡ Some k → (q ≡ p → ⊥)
  later-is q k e s = none-some k (sym e ∙ (ap (place_in rest) s ∙ apart.1))

  later-at : (q k : ℕ) → place_in rest q ≡ Some k → place_in (p ∷ rest) q ≡ Some (suc k)
  later-at q k e = place-later p rest q k (ne_eqb p q (λ s. later-is q k e (sym s))) e

  not-head : (i : ℕ) (r j : ℕ) → place_in (drop i rest) r ≡ Some j → r ≡ p → ⊥
  not-head i r j e = let f = found_from (place_in rest r) (drop-in i rest r (ap is_some e)) in later-is r f.0 f.1

  -- by a commit
  gone-line : (q c : ℕ) → (q ≡ p → ⊥) → with_cache ls p (ended Commit) q c ≡ ls q c
  gone-line q c ne = cond-false (eqb q p) blank (ls q c) (ne_eqb q p ne)

  pub commit-table : table_by (with_cache ls p (ended Commit)) ≡ without (table_by ls) p
  commit-table = fun_ext (λ q. fun_ext (λ b. go q b (eqb q p)))
    where
      go : (q b : ℕ) (t : Bool) → version_at (cond t blank (ls q (b % 16))) b ≡ cond t no_version (table_by ls q b)
      go q b true = blank_none b
      go q b false = refl

  pub keep-commit : Laid (laid_over_all (table_by ls p) ws) rest (with_cache ls p (ended Commit))
  keep-commit = record {
    bare = λ q c none. bare q c (eqb q p) none;
    class = λ q c held. class q c (eqb q p) held;
    next = next;
    word = word;
  }
    where
      bare : (q c : ℕ) (t : Bool) → is_held (version_in (cond t blank (ls q c))) ≡ false → cond t blank (ls q c) ≡ blank
      bare q c true none = refl
      bare q c false none = x.bare q c none

      class : (q c : ℕ) (t : Bool) → is_held (version_in (cond t blank (ls q c))) ≡ true → (cond t blank (ls q c)).tag % 16 ≡ c
      class q c true held = absurd (true≢false (sym held))
      class q c false held = x.class q c held

      kept : (r b : ℕ) → (r ≡ p → ⊥) → table_by (with_cache ls p (ended Commit)) r b ≡ table_by ls r b
      kept r b ne = ap (λ (z : Line). version_at z b) (gone-line r (b % 16) ne)

      next : (q k c : ℕ) → place_in rest q ≡ Some k → is_held (version_in (with_cache ls p (ended Commit) q c)) ≡ true
          → (with_cache ls p (ended Commit) q c).next ≡ holder (table_by (with_cache ls p (ended Commit))) (with_cache ls p (ended Commit) q c).tag (drop (suc k) rest)
      next q k c place held =
          let is = gone-line q c (later-is q k place) in
          let b = (ls q c).tag in
          ap (λ (z : Line). z.next) is
          ∙ (x.next q (suc k) c (later-at q k place) (ap (λ (z : Line). is_held (version_in z)) (sym is) ∙ held)
          ∙ (sym (holder-same (table_by (with_cache ls p (ended Commit))) (table_by ls) b (drop (suc k) rest) (λ r j i. ap is_held (kept r b (not-head (suc k) r j i))))
          ∙ ap (λ (z : Line). holder (table_by (with_cache ls p (ended Commit))) z.tag (drop (suc k) rest)) (sym is)))

      word : (q k c : ℕ) → place_in rest q ≡ Some k → is_held (version_in (with_cache ls p (ended Commit) q c)) ≡ true → is_own (version_in (with_cache ls p (ended Commit) q c)) ≡ false
          → (with_cache ls p (ended Commit) q c).word
          ≡ seen_by (map (λ r. table_by (with_cache ls p (ended Commit)) r (with_cache ls p (ended Commit) q c).tag) (take k rest)) (get_or (laid_over_all (table_by ls p) ws) (with_cache ls p (ended Commit) q c).tag 0)
      word q k c place held copy =
          let is = gone-line q c (later-is q k place) in
          let b = (ls q c).tag in
          let ls-held : is_held (version_in (ls q c)) ≡ true = ap (λ (z : Line). is_held (version_in z)) (sym is) ∙ held in
          let inside : b < length ws = fits.inside q b (ap is_held (shows ws (p ∷ rest) ls x q c ls-held) ∙ ls-held) in
          ap (λ (z : Line). z.word) is
          ∙ (x.word q (suc k) c (later-at q k place) ls-held (ap (λ (z : Line). is_own (version_in z)) (sym is) ∙ copy)
          ∙ (ap (λ (w : ℕ). seen_by (map (λ r. table_by ls r b) (take k rest)) w) (sym (get_or-laid_over_all (table_by ls p) ws b inside))
          ∙ (ap (λ (l : List Version). seen_by l (get_or (laid_over_all (table_by ls p) ws) b 0))
          (same-column (λ r. table_by ls r b) (λ r. table_by (with_cache ls p (ended Commit)) r b) (take k rest) (λ r j i. sym (kept r b (later-is r j (take-place k rest r j i).0))))
          ∙ ap (λ (z : Line). seen_by (map (λ r. table_by (with_cache ls p (ended Commit)) r z.tag) (take k rest)) (get_or (laid_over_all (table_by ls p) ws) z.tag 0)) (sym is))))

  -- by a replacement of a, which it holds
  module _ (a : ℕ) (held-a : is_held (table_by ls p a) ≡ true) where
    left-line : (q c : ℕ) → (q ≡ p → c ≡ a % 16 → ⊥) → with_line ls p (a % 16) blank q c ≡ ls q c
    left-line q c ne = go (eqb q p) (eqb c (a % 16)) refl refl
      where
        go : (t u : Bool) → eqb q p ≡ t → eqb c (a % 16) ≡ u → cond (t && u) blank (ls q c) ≡ ls q c
        go true true e f = absurd (ne (eqb-true q p e) (eqb-true c (a % 16) f))
        go true false e f = refl
        go false u e f = refl

    out_line : (q c : ℕ) → q ≡ p → c ≡ a % 16 → with_line ls p (a % 16) blank q c ≡ blank
    out_line q c e f = cond-true (eqb q p && eqb c (a % 16)) blank (ls q c) (and_from (eqb q p) (eqb c (a % 16)) (eq-eqb q p e) (eq-eqb c (a % 16) f))

    pub replace-table : table_by (with_line ls p (a % 16) blank) ≡ with_version (table_by ls) p a no_version
    replace-table = fun_ext (λ q. fun_ext (λ b. go q b))
      where
        lone : (b : ℕ) → b % 16 ≡ a % 16 → (a ≡ b → ⊥) → (t : Bool) → is_held (table_by ls p b) ≡ t → table_by ls p b ≡ no_version
        lone b class ne true h = absurd (ne (sym (fits.one p b a h held-a class)))
        lone b class ne false h = unheld-none (table_by ls p b) h

        go : (q b : ℕ) → table_by (with_line ls p (a % 16) blank) q b ≡ with_version (table_by ls) p a no_version q b
        go q b = cases (eqb q p) (eqb a b) refl refl
          where
            cases : (t u : Bool) → eqb q p ≡ t → eqb a b ≡ u → table_by (with_line ls p (a % 16) blank) q b ≡ cond (t && u) no_version (table_by ls q b)
            cases false u e f = ap (λ (z : Line). version_at z b) (left-line q (b % 16) (λ s. absurd (eqb-false q p e s)))
            cases true true e f = ap (λ (z : Line). version_at z b) (out_line q (b % 16) (eqb-true q p e) (ap (λ (r : ℕ). r % 16) (sym (eqb-true a b f)))) ∙ blank_none b
            cases true false e f =
                ⊎_elim
                (λ (class : b % 16 ≡ a % 16).
                ap (λ (z : Line). version_at z b) (out_line q (b % 16) (eqb-true q p e) class)
                ∙ (blank_none b ∙ (sym (lone b class (eqb-false a b f) (is_held (table_by ls p b)) refl) ∙ ap (λ (r : ℕ). table_by ls r b) (sym (eqb-true q p e)))))
                (λ (class : b % 16 ≡ a % 16 → ⊥). ap (λ (z : Line). version_at z b) (left-line q (b % 16) (λ s. class)))
                (cases_eq (b % 16) (a % 16))

    stays : (q b : ℕ) → (q ≡ p → ⊥) → table_by (with_line ls p (a % 16) blank) q b ≡ table_by ls q b
    stays q b ne = ap (λ (z : Line). version_at z b) (left-line q (b % 16) (λ s. absurd (ne s)))

    -- a line that still holds is another one
    other-line : (q c : ℕ) → is_held (version_in (with_line ls p (a % 16) blank q c)) ≡ true → q ≡ p → c ≡ a % 16 → ⊥
    other-line q c held e f = true≢false (sym held ∙ ap (λ (z : Line). is_held (version_in z)) (out_line q c e f))

    -- what the head and the memory show of b together is as before
    shown-below : (b : ℕ) → a < length ws → laid_over (table_by (with_line ls p (a % 16) blank) p b) (get_or (written_to (table_by ls p a).own a ws) b 0) ≡ laid_over (table_by ls p b) (get_or ws b 0)
    shown-below b inside =
        ap (λ (t : Table). laid_over (t p b) (get_or (written_to (table_by ls p a).own a ws) b 0)) replace-table ∙ go (eqb a b) refl (table_by ls p a).own refl
      where
        go : (t : Bool) → eqb a b ≡ t → (o : Option ℕ) → (table_by ls p a).own ≡ o
            → laid_over (cond (eqb p p && eqb a b) no_version (table_by ls p b)) (get_or (written_to (table_by ls p a).own a ws) b 0) ≡ laid_over (table_by ls p b) (get_or ws b 0)
        go true e o f =
            let same = eqb-true a b e in
            ap (λ (v : Version). laid_over v (get_or (written_to (table_by ls p a).own a ws) b 0)) (cond-true (eqb p p && eqb a b) no_version (table_by ls p b) (and_from (eqb p p) (eqb a b) (eq-eqb p p refl) e))
            ∙ (ap (λ (u : Option ℕ). get_or (written_to u a ws) b 0) f ∙ (written o same ∙ sym (ap (λ (r : ℕ). unwrap_or (table_by ls p r).own (get_or ws b 0)) (sym same) ∙ ap (λ (u : Option ℕ). unwrap_or u (get_or ws b 0)) f)))
          where
            written : (o : Option ℕ) → a ≡ b → get_or (written_to o a ws) b 0 ≡ unwrap_or o (get_or ws b 0)
            written None same = refl
            written (Some w) same = ap (λ (r : ℕ). get_or (set ws a w) r 0) (sym same) ∙ get_or-set_same ws a w 0 inside
        go false e o f =
            ap (λ (v : Version). laid_over v (get_or (written_to (table_by ls p a).own a ws) b 0)) (cond-false (eqb p p && eqb a b) no_version (table_by ls p b) (and_right (eqb p p) (eqb a b) e))
            ∙ ap (laid_over (table_by ls p b)) (word-apart a b ws (eqb-false a b e) (table_by ls p a).own)

    pub keep-replace : Laid (written_to (table_by ls p a).own a ws) (p ∷ rest) (with_line ls p (a % 16) blank)
    keep-replace = record {
      bare = bare;
      class = class;
      next = next;
      word = word;
    }
      where
        side : (q c : ℕ) → ((q ≡ p) × (c ≡ a % 16)) ⊎ (q ≡ p → c ≡ a % 16 → ⊥)
        side q c =
            ⊎_elim
            (λ (e : q ≡ p). ⊎_elim (λ (f : c ≡ a % 16). inl (e, f)) (λ (f : c ≡ a % 16 → ⊥). inr (λ e' f'. f f')) (cases_eq c (a % 16)))
            (λ (e : q ≡ p → ⊥). inr (λ e' f'. e e'))
            (cases_eq q p)

        bare : (q c : ℕ) → is_held (version_in (with_line ls p (a % 16) blank q c)) ≡ false → with_line ls p (a % 16) blank q c ≡ blank
        bare q c none =
            ⊎_elim (λ (e : (q ≡ p) × (c ≡ a % 16)). out_line q c e.0 e.1)
            (λ (ne : q ≡ p → c ≡ a % 16 → ⊥). let is = left-line q c ne in is ∙ x.bare q c (ap (λ (z : Line). is_held (version_in z)) (sym is) ∙ none)) (side q c)

        class : (q c : ℕ) → is_held (version_in (with_line ls p (a % 16) blank q c)) ≡ true → (with_line ls p (a % 16) blank q c).tag % 16 ≡ c
        class q c held =
            let is = left-line q c (other-line q c held) in
            ap (λ (z : Line). z.tag % 16) is ∙ x.class q c (ap (λ (z : Line). is_held (version_in z)) (sym is) ∙ held)

        next : (q k c : ℕ) → place_in (p ∷ rest) q ≡ Some k → is_held (version_in (with_line ls p (a % 16) blank q c)) ≡ true
            → (with_line ls p (a % 16) blank q c).next ≡ holder (table_by (with_line ls p (a % 16) blank)) (with_line ls p (a % 16) blank q c).tag (drop k rest)
        next q k c place held =
            let is = left-line q c (other-line q c held) in
            let b = (ls q c).tag in
            ap (λ (z : Line). z.next) is
            ∙ (x.next q k c place (ap (λ (z : Line). is_held (version_in z)) (sym is) ∙ held)
            ∙ (sym (holder-same (table_by (with_line ls p (a % 16) blank)) (table_by ls) b (drop k rest) (λ r j i. ap is_held (stays r b (not-head k r j i))))
            ∙ ap (λ (z : Line). holder (table_by (with_line ls p (a % 16) blank)) z.tag (drop k rest)) (sym is)))

        word : (q k c : ℕ) → place_in (p ∷ rest) q ≡ Some k → is_held (version_in (with_line ls p (a % 16) blank q c)) ≡ true → is_own (version_in (with_line ls p (a % 16) blank q c)) ≡ false
            → (with_line ls p (a % 16) blank q c).word
            ≡ seen_by (map (λ r. table_by (with_line ls p (a % 16) blank) r (with_line ls p (a % 16) blank q c).tag) (take k (p ∷ rest))) (get_or (written_to (table_by ls p a).own a ws) (with_line ls p (a % 16) blank q c).tag 0)
        word q k c place held copy =
            let is = left-line q c (other-line q c held) in
            let b = (ls q c).tag in
            let ls-held : is_held (version_in (ls q c)) ≡ true = ap (λ (z : Line). is_held (version_in z)) (sym is) ∙ held in
            ap (λ (z : Line). z.word) is
            ∙ (x.word q k c place ls-held (ap (λ (z : Line). is_own (version_in z)) (sym is) ∙ copy)
            ∙ (sym (go k b (tag-other ls-held))
            ∙ ap (λ (z : Line). seen_by (map (λ r. table_by (with_line ls p (a % 16) blank) r z.tag) (take k (p ∷ rest))) (get_or (written_to (table_by ls p a).own a ws) z.tag 0)) (sym is)))
          where
            tag-other : is_held (version_in (ls q c)) ≡ true → k ≡ 0 → a ≡ (ls q c).tag → ⊥
            tag-other ls-held first same =
                other-line q c held (sym (place-value (p ∷ rest) q 0 (place ∙ ap Some first))) (sym (x.class q c ls-held) ∙ ap (λ (r : ℕ). r % 16) (sym same))

            go : (k b : ℕ) → (k ≡ 0 → a ≡ b → ⊥) → seen_by (map (λ r. table_by (with_line ls p (a % 16) blank) r b) (take k (p ∷ rest))) (get_or (written_to (table_by ls p a).own a ws) b 0)
                ≡ seen_by (map (λ r. table_by ls r b) (take k (p ∷ rest))) (get_or ws b 0)
            go zero b ne = word-apart a b ws (ne refl) (table_by ls p a).own
            go (suc j) b ne =
                ap (λ (l : List Version). seen_by l (laid_over (table_by (with_line ls p (a % 16) blank) p b) (get_or (written_to (table_by ls p a).own a ws) b 0)))
                (same-column (λ r. table_by (with_line ls p (a % 16) blank) r b) (λ r. table_by ls r b) (take j rest) (λ r i m. stays r b (later-is r i (take-place j rest r i m).0)))
                ∙ ap (λ (w : ℕ). seen_by (map (λ r. table_by ls r b) (take j rest)) w) (shown-below b (fits.inside p a held-a))
