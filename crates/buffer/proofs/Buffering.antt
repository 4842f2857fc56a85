-- Laws of the central buffer's rows: what a changed row does to the table, that a set always has room, and that the rows
-- stay good.
use Rattle.std.proofs.Common.{◌≡◌, ℕ, zero, suc, ◌%◌, ◌<◌, ◌≤◌, Bool, true, false, cond, ◌&&◌, eqb, ◌≢◌, ◌⊎◌, List, [], ◌∷◌, map, length, get_or, set, replicate, Some, None, Option, unwrap_or, IsSome, sym, refl, ap, ◌∙◌, subst, inl, inr, ⊎_elim, arith}
use mathlib.Core.Path.{fun_ext}
use Rattle.std.specs.List.{find, list_any, position, position_or_len}
use Rattle.std.specs.Option.{option_map, option_or}
use Rattle.std.proofs.lemmas.List.{length-set, length-map, length-replicate, get_or-set_same, get_or-set_other, get_or_past, get_or_default, get_or-map, get_or-replicate}
use Rattle.std.proofs.lemmas.List.Folds.{Any-from_list_any, list_any_at}
use Rattle.std.proofs.lemmas.List.Sums.{fails_before_first}
use Rattle.std.proofs.lemmas.List.Quantifiers.{position-Some}
use Rattle.std.proofs.lemmas.Bool.{eqb-true, eqb-false, eq-eqb, ne_eqb, lt-ltb, cases_eq, cases_lt, cond-true, cond-false, true≢false, not-true, not-false, and_parts}
use Rattle.std.proofs.lemmas.Bool.Decides.{nat_tests}
use Rattle.buffer.specs.declared.rows.Row.{Row}
use Rattle.versions.specs.declared.sharers.Sharers.{Sharers}
use Rattle.versions.specs.declared.version.Version.{Version}
use Rattle.versions.specs.Sharers.{SharersOf}
use Rattle.versions.specs.Versions.{no_version, is_own, is_held}
use Rattle.versions.specs.Tables.{empty_table, with_version, HeldIn}
use Rattle.versions.proofs.Classes.{unheld-none}
use Rattle.buffer.specs.Sets.{no_row, free_row, in_row, row_with, is_free, in_rows, in_sets, without_row, GoodSet, GoodSets, LastOf, HeldBefore, RowFor}
use Rattle.buffer.specs.Rows.{HoldsNoOther}

-- the version, and the address, of the first row that passes, row by row
found-cons : {A : Type 0} (f : Row → A) (d : A) (t : Bool) (r : Row) (o : Option Row) → unwrap_or (option_map f (cond t (Some r) o)) d ≡ cond t (f r) (unwrap_or (option_map f o) d)
found-cons f d true r o = refl
found-cons f d false r o = refl

in-cons : (r : Row) (rs : List Row) (p a : ℕ) → in_rows (r ∷ rs) p a ≡ cond (eqb r.address a && is_held (in_row r p)) (in_row r p) (in_rows rs p a)
in-cons r rs p a = found-cons (λ x. in_row x p) no_version (eqb r.address a && is_held (in_row r p)) r (find (λ x. eqb x.address a && is_held (in_row x p)) rs)

-- where no row passes
position-none : (f : Row → Bool) (rs : List Row) → position f rs ≡ None → (i : ℕ) → i < length rs → f (get_or rs i no_row) ≡ false
position-none f rs h i l =
    ⊎_elim
    (λ (k : position_or_len f rs < length rs).
    let t : position f rs ≡ Some (position_or_len f rs) = ap (λ (t : Bool). cond t (Some (position_or_len f rs)) None) (lt-ltb (position_or_len f rs) (length rs) k) in
    let z : ◌≡◌ {A = ℕ} 0 1 = cc in absurd (omega arith))
    (λ (k : length rs ≤ position_or_len f rs). fails_before_first f rs i no_row (omega arith))
    (cases_lt (position_or_len f rs) (length rs))

-- where p holds no row of a set, it has no version there
pub rows-unheld : (rs : List Row) (p b : ℕ) → ((i : ℕ) → i < length rs → is_held (in_row (get_or rs i no_row) p) ≡ false) → in_rows rs p b ≡ no_version
rows-unheld [] p b h = refl
rows-unheld (r ∷ rs) p b h =
    let first : is_held (in_row r p) ≡ false = h 0 (omega arith) in
    let skip : (eqb r.address b && is_held (in_row r p)) ≡ false = grind (arith, nat_tests) in
    in-cons r rs p b ∙ (cond-false (eqb r.address b && is_held (in_row r p)) (in_row r p) (in_rows rs p b) skip ∙ rows-unheld rs p b (λ i l. h (suc i) (omega arith)))

-- a row that p holds shows
pub row_shows : (rs : List Row) (p i : ℕ) → i < length rs → is_held (in_row (get_or rs i no_row) p) ≡ true → is_held (in_rows rs p (get_or rs i no_row).address) ≡ true
row_shows [] p i l h = absurd (omega arith)
row_shows (r ∷ rs) p zero l h =
    let here : (eqb r.address r.address && is_held (in_row r p)) ≡ true = rw (eq-eqb r.address r.address refl) h in
    ap is_held (in-cons r rs p r.address ∙ cond-true (eqb r.address r.address && is_held (in_row r p)) (in_row r p) (in_rows rs p r.address) here) ∙ h
row_shows (r ∷ rs) p (suc i) l h = ap is_held (in-cons r rs p (get_or rs i no_row).address) ∙ go (eqb r.address (get_or rs i no_row).address && is_held (in_row r p)) refl (row_shows rs p i (omega arith) h)
  where
    go : (t : Bool) → (eqb r.address (get_or rs i no_row).address && is_held (in_row r p)) ≡ t → is_held (in_rows rs p (get_or rs i no_row).address) ≡ true
        → is_held (cond t (in_row r p) (in_rows rs p (get_or rs i no_row).address)) ≡ true
    go true e again = (and_parts (eqb r.address (get_or rs i no_row).address) (is_held (in_row r p)) e).1
    go false e again = again

-- where no row of address b is held by p, it has no version of b
rows-none : (rs : List Row) (p b : ℕ) → ((i : ℕ) → i < length rs → (get_or rs i no_row).address ≡ b → is_held (in_row (get_or rs i no_row) p) ≡ true → ⊥) → in_rows rs p b ≡ no_version
rows-none [] p b h = refl
rows-none (r ∷ rs) p b h =
    in-cons r rs p b ∙ (cond-false (eqb r.address b && is_held (in_row r p)) (in_row r p) (in_rows rs p b) (skip (eqb r.address b && is_held (in_row r p)) refl) ∙ rows-none rs p b (λ i l. h (suc i) (omega arith)))
  where
    skip : (t : Bool) → (eqb r.address b && is_held (in_row r p)) ≡ t → t ≡ false
    skip true e = let x = and_parts (eqb r.address b) (is_held (in_row r p)) e in absurd (h 0 (omega arith) (eqb-true r.address b x.0) x.1)
    skip false e = refl

-- where p holds no other row of address b than that at place j, it has there the version of b
rows-only : (rs : List Row) (p b j : ℕ) → j < length rs → (get_or rs j no_row).address ≡ b
    → ((i : ℕ) → i < length rs → (get_or rs i no_row).address ≡ b → is_held (in_row (get_or rs i no_row) p) ≡ true → i ≡ j) → in_rows rs p b ≡ in_row (get_or rs j no_row) p
rows-only [] p b j l e h = absurd (omega arith)
rows-only (r ∷ rs) p b zero l e h = in-cons r rs p b ∙ go (is_held (in_row r p)) refl
  where
    rest : in_rows rs p b ≡ no_version
    rest = rows-none rs p b (λ i k s m. let z : suc i ≡ 0 = h (suc i) (omega arith) s m in omega arith)

    go : (t : Bool) → is_held (in_row r p) ≡ t → cond (eqb r.address b && t) (in_row r p) (in_rows rs p b) ≡ in_row r p
    go true x = cond-true (eqb r.address b && true) (in_row r p) (in_rows rs p b) (ap (λ (t : Bool). t && true) (eq-eqb r.address b e))
    go false x = cond-false (eqb r.address b && false) (in_row r p) (in_rows rs p b) (ap (λ (t : Bool). t && false) (eq-eqb r.address b e)) ∙ (rest ∙ sym (unheld-none (in_row r p) x))
rows-only (r ∷ rs) p b (suc j) l e h =
    in-cons r rs p b ∙ (cond-false (eqb r.address b && is_held (in_row r p)) (in_row r p) (in_rows rs p b) (skip (eqb r.address b && is_held (in_row r p)) refl)
    ∙ rows-only rs p b j (omega arith) e (λ i k s m. let z : suc i ≡ suc j = h (suc i) (omega arith) s m in omega arith))
  where
    skip : (t : Bool) → (eqb r.address b && is_held (in_row r p)) ≡ t → t ≡ false
    skip true x = let y = and_parts (eqb r.address b) (is_held (in_row r p)) x in let z : 0 ≡ suc j = h 0 (omega arith) (eqb-true r.address b y.0) y.1 in absurd (omega arith)
    skip false x = refl

-- p's version of a, by the place of the last row of a
pub placed-version : (c : ℕ) (rs : List Row) (p a j : ℕ) → GoodSet c rs → LastOf rs a 4 (Some j) → in_rows rs p a ≡ in_row (get_or rs j no_row) p
placed-version c rs p a j g h =
    rows-only rs p a j (omega (arith, g.count, h.0)) h.1
    (λ i k s m.
    ⊎_elim
    (λ (e : i ≡ j). e)
    (λ (ne : i ≢ j).
    ⊎_elim
    (λ (below : i < j). absurd (g.last p i j below h.0 m (h.1 ∙ sym s)))
    (λ (above : j ≤ i). absurd (h.2 i (omega arith) (omega (arith, g.count)) s))
    (cases_lt i j))
    (cases_eq i j))

pub placed-none : (c : ℕ) (rs : List Row) (p a : ℕ) → GoodSet c rs → LastOf rs a 4 None → in_rows rs p a ≡ no_version
placed-none c rs p a g h = rows-none rs p a (λ i k s m. h i (omega (arith, g.count)) s)

-- the sharers of a, by that row; and where there is none
pub sharers-placed : (c : ℕ) (rs : List Row) (ps : List ℕ) (a j : ℕ) (s : Sharers) → GoodSet c rs → LastOf rs a 4 (Some j) → SharersOf (map (in_row (get_or rs j no_row)) ps) s
    → SharersOf (map (λ q. in_rows rs q a) ps) s
sharers-placed c rs ps a j s g h x = subst (λ (f : ℕ → Version). SharersOf (map f ps) s) (fun_ext (λ q. sym (placed-version c rs q a j g h))) x

pub sharers-none : (c : ℕ) (rs : List Row) (ps : List ℕ) (a : ℕ) (s : Sharers) → GoodSet c rs → LastOf rs a 4 None → length ps ≤ 4 → SharersOf [] s → SharersOf (map (λ q. in_rows rs q a) ps) s
sharers-none c rs ps a s g h few x =
    let f : ℕ → Version = λ q. in_rows rs q a in
    let nothing : (i : ℕ) → get_or (map f ps) i no_version ≡ no_version =
    λ i. ⊎_elim
    (λ (l : i < length ps). get_or-map f ps i 0 no_version l ∙ placed-none c rs (get_or ps i 0) a g h)
    (λ (m : length ps ≤ i). get_or_past (map f ps) i no_version (rw length-map m))
    (cases_lt i (length ps)) in
    record {
      few = rw length-map few;
      marks = λ i. x.marks i ∙ sym (ap (λ (v : Version). v.mark) (nothing i));
      owns = λ i. x.owns i ∙ sym (ap is_own (nothing i));
    }

-- nobody holds a free row, and somebody one that is not free
pub free-unheld : (r : Row) → is_free r ≡ true → (q : ℕ) → is_held (in_row r q) ≡ false
free-unheld r free q =
    ⊎_elim
    (λ (l : q < length r.versions). go l (is_held (in_row r q)) refl)
    (λ (g : length r.versions ≤ q). ap is_held (get_or_past r.versions q no_version g))
    (cases_lt q (length r.versions))
  where
    go : q < length r.versions → (t : Bool) → is_held (in_row r q) ≡ t → t ≡ false
    go l true e = absurd (true≢false (sym (list_any_at is_held r.versions q no_version l e) ∙ not-true (list_any is_held r.versions) free))
    go l false e = refl

taken-held : (r : Row) → is_free r ≡ false → (q : ℕ) × (q < length r.versions) × (is_held (in_row r q) ≡ true)
taken-held r taken =
    let x = Any-from_list_any is_held r.versions (not-false (list_any is_held r.versions) taken) in
    (x.0, x.2, ap is_held (get_or_default r.versions x.0 no_version x.1 x.2 ∙ x.3) ∙ x.4)

-- p's version of a put into the row at place j: the table changes there alone
pub put-rows : (rs : List Row) (j p a : ℕ) (v : Version) → j < length rs → p < length (get_or rs j no_row).versions
    → (((get_or rs j no_row).address ≡ a) ⊎ ((q : ℕ) → is_held (in_row (get_or rs j no_row) q) ≡ false))
    → ((i : ℕ) → i < length rs → is_held (in_row (get_or rs i no_row) p) ≡ true → i ≡ j)
    → (q b : ℕ) → in_rows (set rs j (row_with (get_or rs j no_row) p a v)) q b ≡ cond (eqb q p && eqb a b) v (in_rows rs q b)
put-rows [] j p a v l w fits only q b = absurd (omega arith)
put-rows (r ∷ rs) zero p a v l w fits only q b = go (eqb q p) refl
  where
    rest : in_rows rs p b ≡ no_version
    rest = rows-unheld rs p b (λ i k. not-held i k (is_held (in_row (get_or rs i no_row) p)) refl)
      where
        not-held : (i : ℕ) → i < length rs → (t : Bool) → is_held (in_row (get_or rs i no_row) p) ≡ t → t ≡ false
        not-held i k true h = let z : suc i ≡ 0 = only (suc i) (omega arith) h in absurd (omega arith)
        not-held i k false h = refl

    -- p's version elsewhere in the set, before
    before : eqb a b ≡ false → in_rows (r ∷ rs) p b ≡ no_version
    before other =
        let skip : (eqb r.address b && is_held (in_row r p)) ≡ false =
        ⊎_elim
        (λ (e : r.address ≡ a). rw (e, other))
        (λ (f : (x : ℕ) → is_held (in_row r x) ≡ false). let g = f p in grind (arith, nat_tests))
        fits in
        in-cons r rs p b ∙ (cond-false (eqb r.address b && is_held (in_row r p)) (in_row r p) (in_rows rs p b) skip ∙ rest)

    mine : (t : Bool) → eqb a b ≡ t → (u : Bool) → is_held v ≡ u → cond (t && u) v (in_rows rs p b) ≡ cond t v (in_rows (r ∷ rs) p b)
    mine true x true y = refl
    mine true x false y = rest ∙ sym (unheld-none v y)
    mine false x u y = rest ∙ sym (before x)

    theirs : eqb q p ≡ false → cond (eqb a b && is_held (in_row r q)) (in_row r q) (in_rows rs q b) ≡ cond (eqb r.address b && is_held (in_row r q)) (in_row r q) (in_rows rs q b)
    theirs other =
        ⊎_elim
        (λ (e : r.address ≡ a). ap (λ (x : ℕ). cond (eqb x b && is_held (in_row r q)) (in_row r q) (in_rows rs q b)) (sym e))
        (λ (f : (x : ℕ) → is_held (in_row r x) ≡ false).
        let g : is_held (in_row r q) ≡ false = f q in
        let left : (eqb a b && is_held (in_row r q)) ≡ false = grind (arith, nat_tests) in
        let right : (eqb r.address b && is_held (in_row r q)) ≡ false = grind (arith, nat_tests) in
        cond-false (eqb a b && is_held (in_row r q)) (in_row r q) (in_rows rs q b) left
        ∙ sym (cond-false (eqb r.address b && is_held (in_row r q)) (in_row r q) (in_rows rs q b) right))
        fits

    go : (t : Bool) → eqb q p ≡ t → in_rows (row_with r p a v ∷ rs) q b ≡ cond (t && eqb a b) v (in_rows (r ∷ rs) q b)
    go true x =
        let same : p ≡ q = sym (eqb-true q p x) in
        let new : in_row (row_with r p a v) p ≡ v = get_or-set_same r.versions p v no_version w in
        subst (λ (y : ℕ). in_rows (row_with r p a v ∷ rs) y b ≡ cond (eqb a b) v (in_rows (r ∷ rs) y b)) same
        (in-cons (row_with r p a v) rs p b ∙ ap (λ (u : Version). cond (eqb a b && is_held u) u (in_rows rs p b)) new ∙ mine (eqb a b) refl (is_held v) refl)
    go false x =
        let old : in_row (row_with r p a v) q ≡ in_row r q = get_or-set_other r.versions p q v no_version (eqb-false q p x) in
        in-cons (row_with r p a v) rs q b ∙ (ap (λ (u : Version). cond (eqb a b && is_held u) u (in_rows rs q b)) old ∙ theirs x) ∙ sym (in-cons r rs q b)
put-rows (r ∷ rs) (suc j) p a v l w fits only q b =
    in-cons r (set rs j (row_with (get_or rs j no_row) p a v)) q b
    ∙ (ap (λ (u : Version). cond (eqb r.address b && is_held (in_row r q)) (in_row r q) u)
    (put-rows rs j p a v (omega arith) w fits (λ i k h. let z : suc i ≡ suc j = only (suc i) (omega arith) h in omega arith) q b)
    ∙ (go (eqb q p) refl (eqb a b)
    ∙ ap (cond (eqb q p && eqb a b) v) (sym (in-cons r rs q b))))
  where
    free : is_held (in_row r p) ≡ false
    free = not_first (is_held (in_row r p)) refl
      where
        not_first : (t : Bool) → is_held (in_row r p) ≡ t → t ≡ false
        not_first true h = let z : 0 ≡ suc j = only 0 (omega arith) h in absurd (omega arith)
        not_first false h = refl

    go : (t : Bool) → eqb q p ≡ t → (u : Bool)
        → cond (eqb r.address b && is_held (in_row r q)) (in_row r q) (cond (t && u) v (in_rows rs q b)) ≡ cond (t && u) v (cond (eqb r.address b && is_held (in_row r q)) (in_row r q) (in_rows rs q b))
    go true x true =
        let f : is_held (in_row r q) ≡ false = subst (λ (y : ℕ). is_held (in_row r y) ≡ false) (sym (eqb-true q p x)) free in
        let skip : (eqb r.address b && is_held (in_row r q)) ≡ false = grind (arith, nat_tests) in
        cond-false (eqb r.address b && is_held (in_row r q)) (in_row r q) v skip
    go true x false = refl
    go false x u = refl

-- who holds which row after it
new-held : (rs : List Row) (j p a : ℕ) (v : Version) → j < length rs → (i q : ℕ) → is_held (in_row (get_or (set rs j (row_with (get_or rs j no_row) p a v)) i no_row) q) ≡ true
    → ((i ≡ j) × (q ≡ p)) ⊎ (is_held (in_row (get_or rs i no_row) q) ≡ true)
new-held rs j p a v l i q h =
    ⊎_elim
    (λ (e : i ≡ j).
    let row : get_or (set rs j (row_with (get_or rs j no_row) p a v)) i no_row ≡ row_with (get_or rs j no_row) p a v =
    ap (λ (x : ℕ). get_or (set rs j (row_with (get_or rs j no_row) p a v)) x no_row) e ∙ get_or-set_same rs j (row_with (get_or rs j no_row) p a v) no_row l in
    ⊎_elim
    (λ (s : q ≡ p). inl (e, s))
    (λ (ne : q ≢ p). inr (subst (λ (x : ℕ). is_held (in_row (get_or rs x no_row) q) ≡ true) (sym e)
    (sym (ap is_held (get_or-set_other (get_or rs j no_row).versions p q v no_version ne)) ∙ (sym (ap (λ (r : Row). is_held (in_row r q)) row) ∙ h))))
    (cases_eq q p))
    (λ (ne : i ≢ j). inr (sym (ap (λ (r : Row). is_held (in_row r q)) (get_or-set_other rs j i (row_with (get_or rs j no_row) p a v) no_row ne)) ∙ h))
    (cases_eq i j)

pub put-good : (c : ℕ) (rs : List Row) (j p a : ℕ) (v : Version) → GoodSet c rs → RowFor rs p a j → a % 16 ≡ c → GoodSet c (set rs j (row_with (get_or rs j no_row) p a v))
put-good c rs j p a v g x class =
    let new = set rs j (row_with (get_or rs j no_row) p a v) in
    let l : j < length rs = omega (arith, g.count, x.within) in
    record {
      count = length-set rs j (row_with (get_or rs j no_row) p a v) ∙ g.count;
      wide = λ i h.
          ⊎_elim
          (λ (e : i ≡ j). ap (λ (k : ℕ). length (get_or new k no_row).versions) e
          ∙ (ap (λ (r : Row). length r.versions) (get_or-set_same rs j (row_with (get_or rs j no_row) p a v) no_row l) ∙ (length-set (get_or rs j no_row).versions p v ∙ g.wide j x.within)))
          (λ (ne : i ≢ j). ap (λ (r : Row). length r.versions) (get_or-set_other rs j i (row_with (get_or rs j no_row) p a v) no_row ne) ∙ g.wide i h)
          (cases_eq i j);
      one = λ q i k hi hk e f.
          ⊎_elim
          (λ (s : (i ≡ j) × (q ≡ p)).
          ⊎_elim
          (λ (t : (k ≡ j) × (q ≡ p)). s.0 ∙ sym t.0)
          (λ (o : is_held (in_row (get_or rs k no_row) q) ≡ true). s.0 ∙ sym (x.only k hk (subst (λ (y : ℕ). is_held (in_row (get_or rs k no_row) y) ≡ true) s.1 o)))
          (new-held rs j p a v l k q f))
          (λ (o : is_held (in_row (get_or rs i no_row) q) ≡ true).
          ⊎_elim
          (λ (t : (k ≡ j) × (q ≡ p)). x.only i hi (subst (λ (y : ℕ). is_held (in_row (get_or rs i no_row) y) ≡ true) t.1 o) ∙ sym t.0)
          (λ (u : is_held (in_row (get_or rs k no_row) q) ≡ true). g.one q i k hi hk o u)
          (new-held rs j p a v l k q f))
          (new-held rs j p a v l i q e);
      class = λ q i h e.
          ⊎_elim
          (λ (s : i ≡ j). ap (λ (k : ℕ). (get_or new k no_row).address % 16) s ∙ (ap (λ (r : Row). r.address % 16) (get_or-set_same rs j (row_with (get_or rs j no_row) p a v) no_row l) ∙ class))
          (λ (ne : i ≢ j).
          ap (λ (r : Row). r.address % 16) (get_or-set_other rs j i (row_with (get_or rs j no_row) p a v) no_row ne)
          ∙ g.class q i h (sym (ap (λ (r : Row). is_held (in_row r q)) (get_or-set_other rs j i (row_with (get_or rs j no_row) p a v) no_row ne)) ∙ e))
          (cases_eq i j);
      last = λ q k i below h e same.
          let there : (m : ℕ) → m ≢ j → (get_or new m no_row).address ≡ (get_or rs m no_row).address = λ m ne. ap (λ (r : Row). r.address) (get_or-set_other rs j m (row_with (get_or rs j no_row) p a v) no_row ne) in
          let here : (m : ℕ) → m ≡ j → (get_or new m no_row).address ≡ a = λ m e. ap (λ (x : ℕ). (get_or new x no_row).address) e ∙ ap (λ (r : Row). r.address) (get_or-set_same rs j (row_with (get_or rs j no_row) p a v) no_row l) in
          ⊎_elim
          (λ (s : k ≡ j). x.last i (omega arith) h (sym (there i (omega arith)) ∙ (same ∙ here k s)))
          (λ (ne : k ≢ j).
          let old : is_held (in_row (get_or rs k no_row) q) ≡ true = sym (ap (λ (r : Row). is_held (in_row r q)) (get_or-set_other rs j k (row_with (get_or rs j no_row) p a v) no_row ne)) ∙ e in
          ⊎_elim
          (λ (t : i ≡ j).
          let of : (get_or rs k no_row).address ≡ a = sym (there k ne) ∙ (sym same ∙ here i t) in
          ⊎_elim
          (λ (f : (get_or rs j no_row).address ≡ a). g.last q k j (omega arith) x.within old (f ∙ sym of))
          (λ (f : (is_free (get_or rs j no_row) ≡ true) × ((m : ℕ) → m < 4 → (get_or rs m no_row).address ≢ a)). f.1 k (omega arith) of)
          x.fits)
          (λ (other : i ≢ j). g.last q k i below h old (sym (there i other) ∙ (same ∙ there k ne)))
          (cases_eq i j))
          (cases_eq k j);
    }

-- a set in which p holds nothing has a free row: the other three tasks hold one each at most
pub room : (c : ℕ) (rs : List Row) (p : ℕ) → GoodSet c rs → p < 4 → ((i : ℕ) → i < 4 → is_held (in_row (get_or rs i no_row) p) ≡ false) → position is_free rs ≡ None → ⊥
room c rs p g l none full =
    let taken : (i : ℕ) → i < 4 → (q : ℕ) × (q < 4) × (is_held (in_row (get_or rs i no_row) q) ≡ true) =
    λ i k. let x = taken-held (get_or rs i no_row) (position-none is_free rs full i (omega (arith, g.count))) in (x.0, omega (arith, x.1, g.wide i k), x.2) in
    let w = taken 0 (omega arith) in
    let x = taken 1 (omega arith) in
    let y = taken 2 (omega arith) in
    let z = taken 3 (omega arith) in
    let other : (i : ℕ) → i < 4 → (q : ℕ) → is_held (in_row (get_or rs i no_row) q) ≡ true → q ≡ p → ⊥ =
    λ i k q e s. true≢false (sym e ∙ (ap (λ (r : ℕ). is_held (in_row (get_or rs i no_row) r)) s ∙ none i k)) in
    let apart : (i k : ℕ) → i < k → k < 4 → (q r : ℕ) → is_held (in_row (get_or rs i no_row) q) ≡ true → is_held (in_row (get_or rs k no_row) r) ≡ true → q ≡ r → ⊥ =
    λ i k m n q r e f s. let t : i ≡ k = g.one r i k (omega arith) n (subst (λ (t : ℕ). is_held (in_row (get_or rs i no_row) t) ≡ true) s e) f in omega arith in
    five w.0 x.0 y.0 z.0 p w.1 x.1 y.1 z.1 l
    (apart 0 1 (omega arith) (omega arith) w.0 x.0 w.2 x.2) (apart 0 2 (omega arith) (omega arith) w.0 y.0 w.2 y.2) (apart 0 3 (omega arith) (omega arith) w.0 z.0 w.2 z.2)
    (apart 1 2 (omega arith) (omega arith) x.0 y.0 x.2 y.2) (apart 1 3 (omega arith) (omega arith) x.0 z.0 x.2 z.2) (apart 2 3 (omega arith) (omega arith) y.0 z.0 y.2 z.2)
    (other 0 (omega arith) w.0 w.2) (other 1 (omega arith) x.0 x.2) (other 2 (omega arith) y.0 y.2) (other 3 (omega arith) z.0 z.2)
  where
    five : (w x y z p : ℕ) → w < 4 → x < 4 → y < 4 → z < 4 → p < 4 → (w ≡ x → ⊥) → (w ≡ y → ⊥) → (w ≡ z → ⊥) → (x ≡ y → ⊥) → (x ≡ z → ⊥) → (y ≡ z → ⊥)
        → (w ≡ p → ⊥) → (x ≡ p → ⊥) → (y ≡ p → ⊥) → (z ≡ p → ⊥) → ⊥
    five w x y z p lw lx ly lz lp wx wy wz xy xz yz wp xp yp zp = omega arith

-- the two ways to a row for p's version of a
module _ (rs : List Row) (p a : ℕ) (g : GoodSet (a % 16) rs) (l : p < 4) (mine : (i : ℕ) → i < 4 → is_held (in_row (get_or rs i no_row) p) ≡ true → (get_or rs i no_row).address ≡ a) where
  none-held : LastOf rs a 4 None → (i : ℕ) → i < 4 → is_held (in_row (get_or rs i no_row) p) ≡ false
  none-held h i k = go (is_held (in_row (get_or rs i no_row) p)) refl
    where
      go : (t : Bool) → is_held (in_row (get_or rs i no_row) p) ≡ t → t ≡ false
      go true e = absurd (h i k (mine i k e))
      go false e = refl

  pub some-row : (same : Option ℕ) → LastOf rs a 4 same → (o : Option ℕ) → o ≡ option_or same (position is_free rs) → IsSome o
  some-row same s (Some j) e = refl
  some-row (Some i) s None e = cc
  some-row None s None e = absurd (room (a % 16) rs p g l (none-held s) (sym e))

  pub row-fits : (same : Option ℕ) → LastOf rs a 4 same → (j : ℕ) → option_or same (position is_free rs) ≡ Some j → RowFor rs p a j
  row-fits (Some i) s j e =
      let is : i ≡ j = cc in
      let s : LastOf rs a 4 (Some j) = subst (λ (k : ℕ). LastOf rs a 4 (Some k)) is s in
      record {
        within = s.0;
        fits = inl s.1;
        last = s.2;
        only = λ k m n.
            ⊎_elim
            (λ (e : k ≡ j). e)
            (λ (ne : k ≢ j).
            ⊎_elim
            (λ (below : k < j). absurd (g.last p k j below s.0 n (s.1 ∙ sym (mine k m n))))
            (λ (above : j ≤ k). absurd (s.2 k (omega arith) m (mine k m n)))
            (cases_lt k j))
            (cases_eq k j);
      }
  row-fits None s j e =
      let x = position-Some is_free rs j no_row e in
      record { within = omega (arith, g.count, x.0); fits = inr (x.1, s); last = λ i m k. s i k; only = λ k m n. absurd (true≢false (sym n ∙ none-held s k m)) }

-- the version that p has of a stands in the row that can take it
pub taken-version : (c : ℕ) (rs : List Row) (p a j : ℕ) → GoodSet c rs → RowFor rs p a j → in_rows rs p a ≡ in_row (get_or rs j no_row) p
taken-version c rs p a j g x =
    ⊎_elim
    (λ (e : (get_or rs j no_row).address ≡ a). rows-only rs p a j (omega (arith, g.count, x.within)) e (λ i k s m. x.only i (omega (arith, g.count)) m))
    (λ (f : (is_free (get_or rs j no_row) ≡ true) × ((i : ℕ) → i < 4 → (get_or rs i no_row).address ≢ a)).
    rows-none rs p a (λ i k s m. f.1 i (omega (arith, g.count)) s) ∙ sym (unheld-none (in_row (get_or rs j no_row) p) (free-unheld (get_or rs j no_row) f.0 p)))
    x.fits

-- p's rows of a's class are of address a, where p holds no other address of the class
pub rows-mine : (sets : List (List Row)) (c p a : ℕ) → c ≡ a % 16 → GoodSets sets → HoldsNoOther (in_sets sets p) a
    → (i : ℕ) → i < 4 → is_held (in_row (get_or (get_or sets c []) i no_row) p) ≡ true → (get_or (get_or sets c []) i no_row).address ≡ a
rows-mine sets c p a class_is g class i l h =
    let s = g.each c (omega arith) in
    let rs = get_or sets c [] in
    let same : (get_or rs i no_row).address % 16 ≡ c = s.class p i l h in
    class (get_or rs i no_row).address
    (ap (λ (d : ℕ). is_held (in_rows (get_or sets d []) p (get_or rs i no_row).address)) same ∙ row_shows rs p i (omega (arith, s.count)) h) (same ∙ class_is)

-- the table after p's version of a was put into its set
pub put-table : (sets later : List (List Row)) (c j p a : ℕ) (v : Version) → c ≡ a % 16 → GoodSets sets → p < 4 → RowFor (get_or sets c []) p a j
    → later ≡ set sets c (set (get_or sets c []) j (row_with (get_or (get_or sets c []) j no_row) p a v))
    → (in_sets later ≡ with_version (in_sets sets) p a v) × GoodSets later
put-table sets later c j p a v class_is g l x is =
    let rs = get_or sets c [] in
    let s = g.each c (omega arith) in
    let new = set rs j (row_with (get_or rs j no_row) p a v) in
    let inside : c < length sets = omega (arith, g.count) in
    let here : get_or later c [] ≡ new = ap (λ (t : List (List Row)). get_or t c []) is ∙ get_or-set_same sets c new [] inside in
    let there : (d : ℕ) → d ≢ c → get_or later d [] ≡ get_or sets d [] = λ d ne. ap (λ (t : List (List Row)). get_or t d []) is ∙ get_or-set_other sets c d new [] ne in
    let wide : p < length (get_or rs j no_row).versions = omega (arith, s.wide j x.within) in
    let fits : ((get_or rs j no_row).address ≡ a) ⊎ ((q : ℕ) → is_held (in_row (get_or rs j no_row) q) ≡ false) =
    ⊎_elim (λ (e : (get_or rs j no_row).address ≡ a). inl e) (λ (f : (is_free (get_or rs j no_row) ≡ true) × ((i : ℕ) → i < 4 → (get_or rs i no_row).address ≢ a)). inr (free-unheld (get_or rs j no_row) f.0)) x.fits in (
      fun_ext (λ q. fun_ext (λ b.
          ⊎_elim
          (λ (e : b % 16 ≡ c).
          ap (λ (d : ℕ). in_rows (get_or later d []) q b) e
          ∙ (ap (λ (t : List Row). in_rows t q b) here
          ∙ (put-rows rs j p a v (omega (arith, s.count, x.within)) wide fits (λ i k h. x.only i (omega (arith, s.count)) h) q b
          ∙ ap (λ (d : ℕ). cond (eqb q p && eqb a b) v (in_rows (get_or sets d []) q b)) (sym e))))
          (λ (ne : b % 16 ≢ c).
          let apart : eqb a b ≡ false = ne_eqb a b (λ e. ne (ap (λ (y : ℕ). y % 16) (sym e) ∙ sym class_is)) in
          let off : (eqb q p && eqb a b) ≡ false = grind (arith, nat_tests) in
          ap (λ (t : List Row). in_rows t q b) (there (b % 16) ne) ∙ sym (cond-false (eqb q p && eqb a b) v (in_sets sets q b) off))
          (cases_eq (b % 16) c))),
      record {
        count = ap length is ∙ (length-set sets c new ∙ g.count);
        each = λ d k.
            ⊎_elim
            (λ (e : d ≡ c). subst (λ (y : ℕ). GoodSet y (get_or later y [])) (sym e) (subst (GoodSet c) (sym here) (put-good c rs j p a v s x (sym class_is))))
            (λ (ne : d ≢ c). subst (GoodSet d) (sym (there d ne)) (g.each d k))
            (cases_eq d c);
      },
    )

-- what p holds of a class
pub held-table : (sets : List (List Row)) (p c : ℕ) (o : Option ℕ) → GoodSets sets → c < 16 → HeldBefore (get_or sets c []) p 4 o → HeldIn (in_sets sets p) c o
held-table sets p c None g l h = λ b same.
    ap (λ (d : ℕ). is_held (in_rows (get_or sets d []) p b)) same ∙ ap is_held (rows-unheld (get_or sets c []) p b (λ i k. h i (omega (arith, (g.each c l).count))))
held-table sets p c (Some b) g l h =
    let rs = get_or sets c [] in
    let s = g.each c l in
    let class : b % 16 ≡ c = ap (λ (y : ℕ). y % 16) (sym h.3) ∙ s.class p h.0 h.1 h.2 in (
      class,
      ap (λ (d : ℕ). is_held (in_rows (get_or sets d []) p b)) class
          ∙ subst (λ (y : ℕ). is_held (in_rows rs p y) ≡ true) h.3 (row_shows rs p h.0 (omega (arith, h.1, s.count)) h.2),
    )

-- p's versions taken out
cleared-row : (r : Row) (p q : ℕ) → in_row (without_row p r) q ≡ cond (eqb q p) no_version (in_row r q)
cleared-row r p q =
    ⊎_elim
    (λ (e : q ≡ p). ap (λ (y : ℕ). get_or (set r.versions p no_version) y no_version) e
    ∙ (⊎_elim
    (λ (l : p < length r.versions). get_or-set_same r.versions p no_version no_version l)
    (λ (m : length r.versions ≤ p). get_or_past (set r.versions p no_version) p no_version (rw length-set m))
    (cases_lt p (length r.versions))
    ∙ sym (cond-true (eqb q p) no_version (in_row r q) (eq-eqb q p e))))
    (λ (ne : q ≢ p). get_or-set_other r.versions p q no_version no_version ne ∙ sym (cond-false (eqb q p) no_version (in_row r q) (ne_eqb q p ne)))
    (cases_eq q p)

cleared-rows : (rs : List Row) (p q b : ℕ) → in_rows (map (without_row p) rs) q b ≡ cond (eqb q p) no_version (in_rows rs q b)
cleared-rows [] p q b = go (eqb q p)
  where
    go : (t : Bool) → no_version ≡ cond t no_version no_version
    go true = refl
    go false = refl
cleared-rows (r ∷ rs) p q b =
    in-cons (without_row p r) (map (without_row p) rs) q b
    ∙ (ap (λ (u : Version). cond (eqb r.address b && is_held u) u (in_rows (map (without_row p) rs) q b)) (cleared-row r p q)
    ∙ (ap (λ (u : Version). cond (eqb r.address b && is_held (cond (eqb q p) no_version (in_row r q))) (cond (eqb q p) no_version (in_row r q)) u) (cleared-rows rs p q b)
    ∙ (go (eqb q p) (eqb r.address b) ∙ ap (cond (eqb q p) no_version) (sym (in-cons r rs q b)))))
  where
    go : (t s : Bool) → cond (s && is_held (cond t no_version (in_row r q))) (cond t no_version (in_row r q)) (cond t no_version (in_rows rs q b))
        ≡ cond t no_version (cond (s && is_held (in_row r q)) (in_row r q) (in_rows rs q b))
    go true true = refl
    go true false = refl
    go false s = refl

cleared-held : (r : Row) (p q : ℕ) → is_held (in_row (without_row p r) q) ≡ true → is_held (in_row r q) ≡ true
cleared-held r p q h = go (eqb q p) (sym (ap is_held (cleared-row r p q)) ∙ h)
  where
    go : (t : Bool) → is_held (cond t no_version (in_row r q)) ≡ true → is_held (in_row r q) ≡ true
    go true e = absurd (true≢false (sym e))
    go false e = e

cleared-good : (c : ℕ) (rs : List Row) (p : ℕ) → GoodSet c rs → GoodSet c (map (without_row p) rs)
cleared-good c rs p s =
    let row : (i : ℕ) → i < 4 → get_or (map (without_row p) rs) i no_row ≡ without_row p (get_or rs i no_row) = λ i k. get_or-map (without_row p) rs i no_row no_row (omega (arith, s.count)) in
    let held : (q i : ℕ) → i < 4 → is_held (in_row (get_or (map (without_row p) rs) i no_row) q) ≡ true → is_held (in_row (get_or rs i no_row) q) ≡ true =
    λ q i k h. cleared-held (get_or rs i no_row) p q (sym (ap (λ (r : Row). is_held (in_row r q)) (row i k)) ∙ h) in
    record {
      count = length-map rs (without_row p) ∙ s.count;
      wide = λ i k. ap (λ (r : Row). length r.versions) (row i k) ∙ (length-set (get_or rs i no_row).versions p no_version ∙ s.wide i k);
      one = λ q i k m n e f. s.one q i k m n (held q i m e) (held q k n f);
      class = λ q i k h. ap (λ (r : Row). r.address % 16) (row i k) ∙ s.class q i k (held q i k h);
      last = λ q i k m n h same. s.last q i k m n (held q i (omega arith) h) (sym (ap (λ (r : Row). r.address) (row k n)) ∙ (same ∙ ap (λ (r : Row). r.address) (row i (omega arith))));
    }

-- p's versions taken out of set c: the table loses those of class c
pub clear-table : (sets : List (List Row)) (c p : ℕ) → GoodSets sets → c < 16
    → ((q b : ℕ) → in_sets (set sets c (map (without_row p) (get_or sets c []))) q b ≡ cond (eqb q p && eqb (b % 16) c) no_version (in_sets sets q b))
    × GoodSets (set sets c (map (without_row p) (get_or sets c [])))
clear-table sets c p g l =
    let new = map (without_row p) (get_or sets c []) in
    let here : get_or (set sets c new) c [] ≡ new = get_or-set_same sets c new [] (omega (arith, g.count)) in
    let there : (d : ℕ) → d ≢ c → get_or (set sets c new) d [] ≡ get_or sets d [] = λ d ne. get_or-set_other sets c d new [] ne in (
      λ q b.
          ⊎_elim
          (λ (e : b % 16 ≡ c).
          let same : (eqb q p && eqb (b % 16) c) ≡ eqb q p = let f : eqb (b % 16) c ≡ true = eq-eqb (b % 16) c e in grind (arith, nat_tests) in
          ap (λ (d : ℕ). in_rows (get_or (set sets c new) d []) q b) e
          ∙ (ap (λ (t : List Row). in_rows t q b) here
          ∙ (cleared-rows (get_or sets c []) p q b
          ∙ (ap (λ (d : ℕ). cond (eqb q p) no_version (in_rows (get_or sets d []) q b)) (sym e) ∙ ap (λ (t : Bool). cond t no_version (in_sets sets q b)) (sym same)))))
          (λ (ne : b % 16 ≢ c).
          let off : (eqb q p && eqb (b % 16) c) ≡ false = let f : eqb (b % 16) c ≡ false = ne_eqb (b % 16) c ne in grind (arith, nat_tests) in
          ap (λ (t : List Row). in_rows t q b) (there (b % 16) ne) ∙ sym (cond-false (eqb q p && eqb (b % 16) c) no_version (in_sets sets q b) off))
          (cases_eq (b % 16) c),
      record {
        count = length-set sets c new ∙ g.count;
        each = λ d k.
            ⊎_elim
            (λ (e : d ≡ c). subst (λ (y : ℕ). GoodSet y (get_or (set sets c new) y [])) (sym e) (subst (GoodSet c) (sym here) (cleared-good c (get_or sets c []) p (g.each c l))))
            (λ (ne : d ≢ c). subst (GoodSet d) (sym (there d ne)) (g.each d k))
            (cases_eq d c);
      },
    )

-- all rows free
pub new-table : (sets : List (List Row)) → sets ≡ replicate 16 (replicate 4 free_row) → (in_sets sets ≡ empty_table) × GoodSets sets
new-table sets is =
    let r = free_row in
    let at : (c : ℕ) → c < 16 → get_or sets c [] ≡ replicate 4 r = λ c l. ap (λ (t : List (List Row)). get_or t c []) is ∙ get_or-replicate 16 c (replicate 4 r) [] l in
    let row : (c : ℕ) → c < 16 → (i : ℕ) → i < 4 → get_or (get_or sets c []) i no_row ≡ r = λ c l i k. ap (λ (t : List Row). get_or t i no_row) (at c l) ∙ get_or-replicate 4 i r no_row k in
    let free : (q : ℕ) → is_held (in_row r q) ≡ false =
    λ q. ⊎_elim
    (λ (l : q < 4). ap is_held (get_or-replicate 4 q no_version no_version l))
    (λ (m : 4 ≤ q). ap is_held (get_or_past (replicate 4 no_version) q no_version (rw length-replicate m)))
    (cases_lt q 4) in
    let unheld : (q c : ℕ) → c < 16 → (i : ℕ) → i < 4 → is_held (in_row (get_or (get_or sets c []) i no_row) q) ≡ false = λ q c l i k. ap (λ (x : Row). is_held (in_row x q)) (row c l i k) ∙ free q in
    let four : (c : ℕ) → c < 16 → length (get_or sets c []) ≡ 4 = λ c l. ap length (at c l) ∙ length-replicate 4 r in (
      fun_ext (λ q. fun_ext (λ b. rows-unheld (get_or sets (b % 16) []) q b (λ i k. unheld q (b % 16) (omega arith) i (subst (λ (n : ℕ). i < n) (four (b % 16) (omega arith)) k)))),
      record {
        count = ap length is ∙ length-replicate 16 (replicate 4 r);
        each = λ c l. record {
          count = four c l;
          wide = λ i k. ap (λ (x : Row). length x.versions) (row c l i k) ∙ length-replicate 4 no_version;
          one = λ q i k m n e f. absurd (true≢false (sym e ∙ unheld q c l i m));
          class = λ q i k h. absurd (true≢false (sym h ∙ unheld q c l i k));
          last = λ q i k m n h same. true≢false (sym h ∙ unheld q c l i (omega arith));
        };
      },
    )
