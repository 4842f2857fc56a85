-- The plain store's turns, said of an order of processors and a table of versions. Every store that keeps such a table
-- uses these laws.
use Rattle.std.proofs.Common.{◌≡◌, ℕ, zero, suc, ◌-◌, ◌<◌, ◌≤◌, Bool, true, false, cond, ◌&&◌, ◌||◌, eqb, List, [], ◌∷◌, ◌++◌, map, length, get_or, take, drop, is_some, Some, None, Option, sym, refl, ap, ◌∙◌, subst, arith}
use Rattle.std.specs.List.{list_any, before_first, after_first}
use mathlib.Core.Path.{fun_ext}
use Rattle.std.specs.Option.{option_map}
use Rattle.std.proofs.lemmas.List.{map-append, length-map, length-drop}
use Rattle.std.proofs.lemmas.Bool.{eq-eqb, eqb-true}
use Rattle.memory.specs.Client.{count_below}
use Rattle.versions.specs.declared.version.Version.{Version}
use Rattle.versions.specs.declared.turn.Turn.TheVariants.{Start, Load, Store, Squash, Commit, Replace}
use Rattle.versions.specs.Cuts.{up_to, changed, but_last}
use Rattle.versions.specs.Orders.{place_in, Apart}
use Rattle.versions.specs.Versions.{no_version, is_own, with_load, with_store, seen_by, squashed_by}
use Rattle.versions.specs.Plain.{Task, fresh, is_on, changed_at, column, task_on, laid_over_all, written_to, given, moved}
use Rattle.versions.specs.Tables.{Table, task_by, plain_of, with_version}
use Rattle.versions.proofs.Cutting.{before_first_at, up_to-at, after_first_at, changed-at, but_last-map}
use Rattle.versions.proofs.Ordering.{place_none, place-none-cons, apart-take, place_in-cons, place-first, place-later}
use Rattle.versions.proofs.Turning.{task_on-at}

-- p at place k cuts the processors in three
pub record Placed (ps : List ℕ) (p k : ℕ) : Type 0 where
  pub within : k < length ps
  pub parts : ps ≡ take k ps ++ p ∷ drop (suc k) ps
  pub upto : take (suc k) ps ≡ take k ps ++ p ∷ []
  pub none : place_in (take k ps) p ≡ None

placed-cons : (q : ℕ) (ps : List ℕ) (p k : ℕ) → eqb q p ≡ false → Placed ps p k → Placed (q ∷ ps) p (suc k)
placed-cons q ps p k other x = record {
  within = omega (arith, x.within);
  parts = ap (λ l. q ∷ l) x.parts;
  upto = ap (λ l. q ∷ l) x.upto;
  none = place-none-cons q (take k ps) p other x.none;
}

pub placed : (ps : List ℕ) (p k : ℕ) → place_in ps p ≡ Some k → Placed ps p k
placed [] p k e = let z : ◌≡◌ {A = ℕ} 0 1 = cc in absurd (omega arith)
placed (q ∷ ps) p k e = go (eqb q p) refl (sym (place_in-cons q ps p) ∙ e) (place_in ps p) refl (λ j h. placed ps p j h)
  where
    go : (t : Bool) → eqb q p ≡ t → cond t (Some 0) (option_map suc (place_in ps p)) ≡ Some k → (o : Option ℕ) → place_in ps p ≡ o
        → ((j : ℕ) → place_in ps p ≡ Some j → Placed ps p j) → Placed (q ∷ ps) p k
    go true h e o i again =
        let zero_is : 0 ≡ k = cc in
        subst (Placed (q ∷ ps) p) zero_is
        (record { within = omega arith; parts = ap (λ (x : ℕ). x ∷ ps) (eqb-true q p h); upto = ap (λ (x : ℕ). x ∷ []) (eqb-true q p h); none = refl })
    go false h e None i again = let f : None ≡ Some k = sym (ap (option_map suc) i) ∙ e in let z : ◌≡◌ {A = ℕ} 0 1 = cc in absurd (omega arith)
    go false h e (Some j) i again =
        let f : Some (suc j) ≡ Some k = sym (ap (option_map suc) i) ∙ e in
        let same : suc j ≡ k = cc in
        subst (Placed (q ∷ ps) p) same (placed-cons q ps p j h (again j i))

-- where processors are apart, p is not past its place either
pub none-past : (ps : List ℕ) (p k : ℕ) → Apart ps → place_in ps p ≡ Some k → place_in (drop (suc k) ps) p ≡ None
none-past [] p k a e = refl
none-past (q ∷ ps) p k a e = go (eqb q p) refl (sym (place_in-cons q ps p) ∙ e) (place_in ps p) refl (λ j h. none-past ps p j a.2 h)
  where
    go : (t : Bool) → eqb q p ≡ t → cond t (Some 0) (option_map suc (place_in ps p)) ≡ Some k → (o : Option ℕ) → place_in ps p ≡ o
        → ((j : ℕ) → place_in ps p ≡ Some j → place_in (drop (suc j) ps) p ≡ None) → place_in (drop k ps) p ≡ None
    go true h e o i again =
        let zero_is : 0 ≡ k = cc in
        subst (λ (n : ℕ). place_in (drop n ps) p ≡ None) zero_is (subst (λ (x : ℕ). place_in ps x ≡ None) (eqb-true q p h) a.1)
    go false h e None i again = let f : None ≡ Some k = sym (ap (option_map suc) i) ∙ e in let z : ◌≡◌ {A = ℕ} 0 1 = cc in absurd (omega arith)
    go false h e (Some j) i again =
        let f : Some (suc j) ≡ Some k = sym (ap (option_map suc) i) ∙ e in
        let same : suc j ≡ k = cc in
        subst (λ (n : ℕ). place_in (drop n ps) p ≡ None) same (again j i)

module _ (table : Table) where
  pub any-task_by : (ps : List ℕ) (p : ℕ) → list_any (is_on p) (map (task_by table) ps) ≡ is_some (place_in ps p)
  any-task_by [] p = refl
  any-task_by (q ∷ ps) p = go (eqb q p) (place_in ps p) (any-task_by ps p) ∙ ap is_some (sym (place_in-cons q ps p))
    where
      go : (t : Bool) (o : Option ℕ) → list_any (is_on p) (map (task_by table) ps) ≡ is_some o → (t || list_any (is_on p) (map (task_by table) ps)) ≡ is_some (cond t (Some 0) (option_map suc o))
      go true o h = refl
      go false None h = h
      go false (Some j) h = h

  none-on : (ps : List ℕ) (p : ℕ) → place_in ps p ≡ None → list_any (is_on p) (map (task_by table) ps) ≡ false
  none-on ps p e = any-task_by ps p ∙ ap is_some e

  here_on : (p : ℕ) → is_on p (task_by table p) ≡ true
  here_on p = eq-eqb p p refl

  -- the order, cut at p's task
  module _ (ps : List ℕ) (p k : ℕ) (x : Placed ps p k) where
    order-parts : map (task_by table) ps ≡ map (task_by table) (take k ps) ++ task_by table p ∷ map (task_by table) (drop (suc k) ps)
    order-parts = ap (map (task_by table)) x.parts ∙ map-append (task_by table) (take k ps) (p ∷ drop (suc k) ps)

    pub before_first_is : before_first (is_on p) (map (task_by table) ps) ≡ map (task_by table) (take k ps)
    before_first_is = ap (before_first (is_on p)) order-parts
        ∙ before_first_at (is_on p) (task_by table p) (map (task_by table) (drop (suc k) ps)) (here_on p) (map (task_by table) (take k ps)) (none-on (take k ps) p x.none)

    pub up_to-is : up_to (is_on p) (map (task_by table) ps) ≡ map (task_by table) (take (suc k) ps)
    up_to-is = ap (up_to (is_on p)) order-parts
        ∙ (up_to-at (is_on p) (task_by table p) (map (task_by table) (drop (suc k) ps)) (here_on p) (map (task_by table) (take k ps)) (none-on (take k ps) p x.none)
        ∙ sym (ap (map (task_by table)) x.upto ∙ map-append (task_by table) (take k ps) (p ∷ [])))

    pub after_first_is : after_first (is_on p) (map (task_by table) ps) ≡ map (task_by table) (drop (suc k) ps)
    after_first_is = ap (after_first (is_on p)) order-parts
        ∙ after_first_at (is_on p) (task_by table p) (map (task_by table) (drop (suc k) ps)) (here_on p) (map (task_by table) (take k ps)) (none-on (take k ps) p x.none)

    pub task_on-is : task_on p (map (task_by table) ps) ≡ task_by table p
    task_on-is = ap (task_on p) order-parts
        ∙ task_on-at p (map (task_by table) (take k ps)) (task_by table p) (map (task_by table) (drop (suc k) ps)) (none-on (take k ps) p x.none) (here_on p)

  column-is : (a : ℕ) (ps : List ℕ) → column a (map (task_by table) ps) ≡ map (λ q. table q a) ps
  column-is a [] = refl
  column-is a (q ∷ ps) = ap (λ (l : List Version). table q a ∷ l) (column-is a ps)

-- tables that differ at p alone make the same tasks of the other processors
pub tasks-agree : (other table : Table) (ps : List ℕ) (p : ℕ) → place_in ps p ≡ None → ((q b : ℕ) → eqb q p ≡ false → other q b ≡ table q b)
    → map (task_by other) ps ≡ map (task_by table) ps
tasks-agree other table [] p none agree = refl
tasks-agree other table (q ∷ ps) p none agree =
    let n = place_none q ps p none in
    let same : task_by other q ≡ task_by table q = ap (λ (f : ℕ → Version). record { on = q; at = f }) (fun_ext (λ b. agree q b n.0)) in
    ap (λ (t : Task). t ∷ map (task_by other) ps) same ∙ ap (λ (l : List Task). task_by table q ∷ l) (tasks-agree other table ps p n.1 agree)

-- tables that agree on some processors make the same tasks of them
pub tasks-same : (other table : Table) (ps : List ℕ) → ((q k : ℕ) → place_in ps q ≡ Some k → (b : ℕ) → other q b ≡ table q b) → map (task_by other) ps ≡ map (task_by table) ps
tasks-same other table [] agree = refl
tasks-same other table (q ∷ ps) agree =
    let first : place_in (q ∷ ps) q ≡ Some 0 = place-first q ps q (eq-eqb q q refl) in
    let same : task_by other q ≡ task_by table q = ap (λ (f : ℕ → Version). record { on = q; at = f }) (fun_ext (λ b. agree q 0 first b)) in
    ap (λ (t : Task). t ∷ map (task_by other) ps) same
    ∙ ap (λ (l : List Task). task_by table q ∷ l) (tasks-same other table ps (λ r k e b. later r k e b (eqb q r) refl))
  where
    later : (r k : ℕ) → place_in ps r ≡ Some k → (b : ℕ) (t : Bool) → eqb q r ≡ t → other r b ≡ table r b
    later r k e b true h = agree r 0 (place-first q ps r h) b
    later r k e b false h = agree r (suc k) (place-later q ps r k h e) b

with_version-other : (table : Table) (p a : ℕ) (v : Version) (q b : ℕ) → eqb q p ≡ false → with_version table p a v q b ≡ table q b
with_version-other table p a v q b e = rw e

-- p's version at a, changed by f
changed-is : (table : Table) (ps : List ℕ) (p k a : ℕ) (f : Version → Version) → Apart ps → place_in ps p ≡ Some k
    → changed (is_on p) (changed_at a f) (map (task_by table) ps) ≡ map (task_by (with_version table p a (f (table p a)))) ps
changed-is table ps p k a f apart place =
    let x = placed ps p k place in
    let other = with_version table p a (f (table p a)) in
    let mine : changed_at a f (task_by table p) ≡ task_by other p = ap (λ (g : ℕ → Version). record { on = p; at = g }) (fun_ext (λ b. go b (eqb a b) refl)) in
    ap (changed (is_on p) (changed_at a f)) (order-parts table ps p k x)
    ∙ (changed-at (is_on p) (task_by table p) (map (task_by table) (drop (suc k) ps)) (here_on table p) (changed_at a f) (map (task_by table) (take k ps)) (none-on table (take k ps) p x.none)
    ∙ (ap (λ (t : Task). map (task_by table) (take k ps) ++ t ∷ map (task_by table) (drop (suc k) ps)) mine
    ∙ (ap (λ (l : List Task). l ++ task_by other p ∷ map (task_by table) (drop (suc k) ps)) (sym (tasks-agree other table (take k ps) p x.none (with_version-other table p a (f (table p a)))))
    ∙ (ap (λ (l : List Task). map (task_by other) (take k ps) ++ task_by other p ∷ l) (sym (tasks-agree other table (drop (suc k) ps) p (none-past ps p k apart place) (with_version-other table p a (f (table p a)))))
    ∙ sym (order-parts other ps p k x)))))
  where
    go : (b : ℕ) (t : Bool) → eqb a b ≡ t → cond t (f (table p b)) (table p b) ≡ cond (eqb p p && t) (f (table p a)) (table p b)
    go b true h = rw (eq-eqb p p refl) (ap (λ (c : ℕ). f (table p c)) (sym (eqb-true a b h)))
    go b false h = rw (eq-eqb p p refl)

-- a front of the processors still has p at its place
pub place-take : (m : ℕ) (ps : List ℕ) (p k : ℕ) → place_in ps p ≡ Some k → k < m → place_in (take m ps) p ≡ Some k
place-take zero ps p k e h = absurd (omega arith)
place-take (suc m) [] p k e h = e
place-take (suc m) (q ∷ ps) p k e h =
    place_in-cons q (take m ps) p ∙ go (eqb q p) (sym (place_in-cons q ps p) ∙ e) (place_in ps p) refl (λ j i l. place-take m ps p j i l)
  where
    go : (t : Bool) → cond t (Some 0) (option_map suc (place_in ps p)) ≡ Some k → (o : Option ℕ) → place_in ps p ≡ o
        → ((j : ℕ) → place_in ps p ≡ Some j → j < m → place_in (take m ps) p ≡ Some j) → cond t (Some 0) (option_map suc (place_in (take m ps) p)) ≡ Some k
    go true e o i again = e
    go false e None i again = let f : None ≡ Some k = sym (ap (option_map suc) i) ∙ e in let z : ◌≡◌ {A = ℕ} 0 1 = cc in absurd (omega arith)
    go false e (Some j) i again =
        let f : Some (suc j) ≡ Some k = sym (ap (option_map suc) i) ∙ e in
        let same : suc j ≡ k = cc in
        ap (option_map suc) (again j i (omega arith)) ∙ f

squashed_by-le : (vs : List Version) → squashed_by vs ≤ length vs
squashed_by-le [] = omega arith
squashed_by-le (v ∷ vs) = go v.mark (is_own v) (squashed_by-le vs)
  where
    go : (t u : Bool) → squashed_by vs ≤ length vs → cond t (suc (length vs)) (cond u 0 (squashed_by vs)) ≤ suc (length vs)
    go true u h = omega arith
    go false true h = omega arith
    go false false h = omega arith

-- how many a store of p at a squashes, and how many stay
abbrev pub squashes : Table → List ℕ → ℕ → ℕ → ℕ
squashes table ps k a = squashed_by (map (λ q. table q a) (drop (suc k) ps))

pub squashes-le : (table : Table) (ps : List ℕ) (p k a : ℕ) → place_in ps p ≡ Some k → k < length ps - squashes table ps k a
squashes-le table ps p k a place =
    let x = placed ps p k place in
    let le = squashed_by-le (map (λ q. table q a) (drop (suc k) ps)) in
    omega (arith, le, length-map (drop (suc k) ps) (λ q. table q a), length-drop (suc k) ps, x.within)

module _ (ws : List ℕ) (ps : List ℕ) (table : Table) (p k : ℕ) (apart : Apart ps) (place : place_in ps p ≡ Some k) where
  pub given-load : (a : ℕ) → given (plain_of ws ps table) (Load p a) ≡ seen_by (map (λ q. table q a) (take (suc k) ps)) (get_or ws a 0)
  given-load a = ap (λ (c : List Version). seen_by c (get_or ws a 0)) (ap (column a) (up_to-is table ps p k (placed ps p k place)) ∙ column-is table a (take (suc k) ps))

  pub moved-load : (a : ℕ) → moved (plain_of ws ps table) (Load p a) ≡ plain_of ws ps (with_version table p a (with_load (table p a)))
  moved-load a = ap (λ (o : List Task). record { memory = ws; order = o }) (changed-is table ps p k a with_load apart place)

  pub given-store : (a w : ℕ) → given (plain_of ws ps table) (Store p a w) ≡ squashes table ps k a
  given-store a w = ap squashed_by (ap (column a) (after_first_is table ps p k (placed ps p k place)) ∙ column-is table a (drop (suc k) ps))

  pub moved_store : (a w : ℕ) → moved (plain_of ws ps table) (Store p a w)
      ≡ plain_of ws (take (length ps - squashes table ps k a) ps) (with_version table p a (with_store w (table p a)))
  moved_store a w =
      let m = length ps - squashes table ps k a in
      let cut : but_last (squashes table ps k a) (map (task_by table) ps) ≡ map (task_by table) (take m ps) = but_last-map (squashes table ps k a) (task_by table) ps in
      ap (λ (o : List Task). record { memory = ws; order = o })
      (ap (λ (n : ℕ). changed (is_on p) (changed_at a (with_store w)) (but_last n (map (task_by table) ps))) (given-store a w)
      ∙ (ap (changed (is_on p) (changed_at a (with_store w))) cut
      ∙ changed-is table (take m ps) p k a (with_store w) (apart-take m ps apart) (place-take m ps p k place (squashes-le table ps p k a place))))

  pub given-squash : given (plain_of ws ps table) (Squash p) ≡ length ps - k
  given-squash =
      ap (λ (l : List Task). suc (length l)) (after_first_is table ps p k (placed ps p k place))
      ∙ omega (arith, length-map (drop (suc k) ps) (task_by table), length-drop (suc k) ps, (placed ps p k place).within)

  pub moved-squash : moved (plain_of ws ps table) (Squash p) ≡ plain_of ws (take k ps) table
  moved-squash = ap (λ (o : List Task). record { memory = ws; order = o }) (before_first_is table ps p k (placed ps p k place))

  pub given-commit : given (plain_of ws ps table) (Commit p) ≡ count_below (λ a. is_own (table p a)) (length ws)
  given-commit = ap (λ (t : Task). count_below (λ a. is_own (t.at a)) (length ws)) (task_on-is table ps p k (placed ps p k place))

  pub moved-commit : k ≡ 0 → moved (plain_of ws ps table) (Commit p) ≡ plain_of (laid_over_all (table p) ws) (drop 1 ps) table
  moved-commit first =
      let front : before_first (is_on p) (map (task_by table) ps) ≡ [] = before_first_is table ps p k (placed ps p k place) ∙ ap (λ (n : ℕ). map (task_by table) (take n ps)) first in
      let back : after_first (is_on p) (map (task_by table) ps) ≡ map (task_by table) (drop 1 ps) = after_first_is table ps p k (placed ps p k place) ∙ ap (λ (n : ℕ). map (task_by table) (drop (suc n) ps)) first in
      ap (λ (t : Task). record { memory = laid_over_all t.at ws; order = before_first (is_on p) (map (task_by table) ps) ++ after_first (is_on p) (map (task_by table) ps) }) (task_on-is table ps p k (placed ps p k place))
      ∙ (ap (λ (o : List Task). record { memory = laid_over_all (table p) ws; order = o ++ after_first (is_on p) (map (task_by table) ps) }) front
      ∙ ap (λ (o : List Task). record { memory = laid_over_all (table p) ws; order = o }) back)

  pub given-replace : (a : ℕ) → given (plain_of ws ps table) (Replace p a) ≡ cond (is_own (table p a)) 1 0
  given-replace a = ap (λ (t : Task). cond (is_own (t.at a)) 1 0) (task_on-is table ps p k (placed ps p k place))

  pub moved-replace : (a : ℕ) → moved (plain_of ws ps table) (Replace p a) ≡ plain_of (written_to (table p a).own a ws) ps (with_version table p a no_version)
  moved-replace a =
      ap (λ (t : Task). record { memory = written_to (t.at a).own a ws; order = changed (is_on p) (changed_at a (λ v. no_version)) (map (task_by table) ps) }) (task_on-is table ps p k (placed ps p k place))
      ∙ ap (λ (o : List Task). record { memory = written_to (table p a).own a ws; order = o }) (changed-is table ps p k a (λ v. no_version) apart place)

pub moved-start : (ws ps : List ℕ) (table : Table) (p : ℕ) → ((b : ℕ) → table p b ≡ no_version) → moved (plain_of ws ps table) (Start p) ≡ plain_of ws (ps ++ p ∷ []) table
moved-start ws ps table p idle =
    let blank : fresh p ≡ task_by table p = ap (λ (f : ℕ → Version). record { on = p; at = f }) (fun_ext (λ b. sym (idle b))) in
    ap (λ (o : List Task). record { memory = ws; order = o })
    (ap (λ (t : Task). map (task_by table) ps ++ t ∷ []) blank ∙ sym (map-append (task_by table) ps (p ∷ [])))

pub given-start : (ws ps : List ℕ) (table : Table) (p : ℕ) → given (plain_of ws ps table) (Start p) ≡ length ps
given-start ws ps table p = length-map ps (task_by table)
