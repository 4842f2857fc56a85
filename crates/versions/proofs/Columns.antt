-- The tasks of the book as tasks of the plain store, and the columns of their versions: what the last of some tasks
-- sees, and which later tasks a store squashes.
use Rattle.std.proofs.Common.{◌≡◌, ℕ, suc, ◌-◌, ◌≤◌, Bool, true, false, cond, not, ◌||◌, eqb, List, [], ◌∷◌, ◌++◌, map, length, take, sym, refl, ap, ◌∙◌, inl, inr, arith}
use Rattle.std.proofs.lemmas.List.{length-append, length-map}
use Rattle.std.proofs.lemmas.Bool.{or_parts, and_parts, eqb-true, eq-eqb, true≢false, not-true, or_from}
use Rattle.std.proofs.lemmas.Bool.Decides.{nat_tests}
use Rattle.versions.specs.Cuts.{but_last}
use Rattle.versions.specs.declared.version.Version.{Version}
use Rattle.versions.specs.Versions.{no_version, is_own, with_load, with_store, seen_by, squashed_by}
use Rattle.versions.specs.Plain.{Task, fresh, changed_at, column}
use Rattle.versions.specs.Book.{Access, loaded, stored, replaced, Entry, with_access, all_accesses, after_run, stores_to, replaces, replaced_stores}
use Rattle.versions.specs.Sequential.{WouldRead, ExactSquash}
use Rattle.versions.proofs.Cells.{after_run-++, exposes, exposes-++, stores_to-++, version_by, laid_over-run, is_own-run, mark-run, replaced-run}
use Rattle.versions.proofs.Cutting.{but_last-cons, but_last-all}

-- the plain task after an access, and after a run of them
abbrev pub does : Task → Access → Task
does t (loaded a v) = changed_at a with_load t
does t (stored a v) = changed_at a (with_store v) t
does t (replaced a) = changed_at a (λ v. no_version) t

abbrev pub did : Task → List Access → Task
did t [] = t
did t (x ∷ xs) = did (does t x) xs

did-snoc : (t : Task) (xs : List Access) (x : Access) → did t (xs ++ x ∷ []) ≡ does (did t xs) x
did-snoc t [] x = refl
did-snoc t (y ∷ xs) x = did-snoc (does t y) xs x

did_at : (t : Task) (xs : List Access) (a : ℕ) → (did t xs).at a ≡ version_by xs a (t.at a)
did_at t [] a = refl
did_at t (loaded b v ∷ xs) a = did_at (does t (loaded b v)) xs a
did_at t (stored b v ∷ xs) a = did_at (does t (stored b v)) xs a
did_at t (replaced b ∷ xs) a = did_at (does t (replaced b)) xs a

-- an entry of the book as a task of the plain store
abbrev pub task_of : Entry → Task
task_of e = record { on = e.by; at = (did (fresh e.by) e.accesses).at }

-- its version at a
abbrev pub version_of : ℕ → Entry → Version
version_of a e = version_by e.accesses a no_version

pub task_of-at : (e : Entry) (a : ℕ) → (task_of e).at a ≡ version_of a e
task_of-at e a = did_at (fresh e.by) e.accesses a

pub column-task_of : (es : List Entry) (a : ℕ) → column a (map task_of es) ≡ map (version_of a) es
column-task_of [] a = refl
column-task_of (e ∷ es) a = rw (task_of-at e a, column-task_of es a)

-- an access changes the task as the plain store does
pub task_of-load : (e : Entry) (a v : ℕ) → task_of (with_access (loaded a v) e) ≡ changed_at a with_load (task_of e)
task_of-load e a v = rw (did-snoc (fresh e.by) e.accesses (loaded a v))

pub task_of-store : (e : Entry) (a v : ℕ) → task_of (with_access (stored a v) e) ≡ changed_at a (with_store v) (task_of e)
task_of-store e a v = rw (did-snoc (fresh e.by) e.accesses (stored a v))

pub task_of-replace : (e : Entry) (a : ℕ) → task_of (with_access (replaced a) e) ≡ changed_at a (λ v. no_version) (task_of e)
task_of-replace e a = rw (did-snoc (fresh e.by) e.accesses (replaced a))

-- no task among these has replaced an address
abbrev pub Clean : List Entry → Type 0
Clean [] = Unit {0}
Clean (e ∷ es) = ((a : ℕ) → replaces a e.accesses ≡ false) × Clean es

-- the last of some tasks without replacements sees what their run leaves
pub seen_clean : (es : List Entry) (a w : ℕ) → Clean es → seen_by (map (version_of a) es) w ≡ after_run (all_accesses es) a w
seen_clean [] a w c = refl
seen_clean (e ∷ es) a w c =
    ap (seen_by (map (version_of a) es)) (laid_over-run e.accesses a no_version w (c.0 a))
    ∙ (seen_clean es a (after_run e.accesses a w) c.1 ∙ sym (after_run-++ e.accesses (all_accesses es) a w))

-- and so it is where the first may have replaced, over what its replaced stores left
pub seen_first : (e : Entry) (es : List Entry) (a w : ℕ) → Clean es
    → seen_by (map (version_of a) (e ∷ es)) (after_run (replaced_stores e.accesses) a w) ≡ after_run (all_accesses (e ∷ es)) a w
seen_first e es a w c =
    ap (seen_by (map (version_of a) es)) (replaced-run e.accesses a w)
    ∙ (seen_clean es a (after_run e.accesses a w) c ∙ sym (after_run-++ e.accesses (all_accesses es) a w))

-- a load that would read: nothing is stored between, and the task exposes a load
pub reads-tests : (a : ℕ) (between xs : List Access) → WouldRead a between xs → (stores_to a between ≡ false) × (exposes a xs ≡ true)
reads-tests a between xs r =
    let ys = r.0 in
    let none : (stores_to a between || stores_to a ys) ≡ false = sym (stores_to-++ between ys a) ∙ r.4 in
    let parts = or_parts (stores_to a between) (stores_to a ys) none in
    let same : eqb a a ≡ true = eq-eqb a a refl in
    let split = exposes-++ ys (loaded a r.1 ∷ r.2) a in
    (parts.0, ap (exposes a) r.3 ∙ (split ∙ grind (arith, nat_tests)))

exposed-split : (a : ℕ) (xs : List Access) → exposes a xs ≡ true
    → (ys : List Access) × (v : ℕ) × (zs : List Access) × (xs ≡ ys ++ loaded a v ∷ zs) × (stores_to a ys ≡ false)
exposed-split a [] e = absurd (true≢false (sym e))
exposed-split a (loaded b v ∷ xs) e = go (eqb b a) refl (λ h. exposed-split a xs h)
  where
    go : (t : Bool) → eqb b a ≡ t
        → (exposes a xs ≡ true → (ys : List Access) × (v : ℕ) × (zs : List Access) × (xs ≡ ys ++ loaded a v ∷ zs) × (stores_to a ys ≡ false))
        → (ys : List Access) × (u : ℕ) × (zs : List Access) × (loaded b v ∷ xs ≡ ys ++ loaded a u ∷ zs) × (stores_to a ys ≡ false)
    go true h again = ([], v, xs, ap (λ (c : ℕ). loaded c v ∷ xs) (eqb-true b a h), refl)
    go false h again =
        let r = again (grind (arith, nat_tests)) in
        (loaded b v ∷ r.0, r.1, r.2, ap (λ (l : List Access). loaded b v ∷ l) r.3, r.4)
exposed-split a (stored b v ∷ xs) e =
    let p = and_parts (not (eqb b a)) (exposes a xs) e in
    let r = exposed-split a xs p.1 in
    (stored b v ∷ r.0, r.1, r.2, ap (λ (l : List Access). stored b v ∷ l) r.3, or_from (eqb b a) (stores_to a r.0) (not-true (eqb b a) p.0) r.4)
exposed-split a (replaced b ∷ xs) e =
    let r = exposed-split a xs e in
    (replaced b ∷ r.0, r.1, r.2, ap (λ (l : List Access). replaced b ∷ l) r.3, r.4)

pub reads-from : (a : ℕ) (between xs : List Access) → stores_to a between ≡ false → exposes a xs ≡ true → WouldRead a between xs
reads-from a between xs none e =
    let r = exposed-split a xs e in
    (r.0, r.1, r.2, r.3, stores_to-++ between r.0 a ∙ or_from (stores_to a between) (stores_to a r.0) none r.4)

-- the mark and the own word of a version tell of its task's accesses
mark_of : (a : ℕ) (e : Entry) → replaces a e.accesses ≡ false → (version_of a e).mark ≡ exposes a e.accesses
mark_of a e c = mark-run e.accesses a no_version c

own_of : (a : ℕ) (e : Entry) → replaces a e.accesses ≡ false → is_own (version_of a e) ≡ stores_to a e.accesses
own_of a e c = is_own-run e.accesses a no_version c

-- how many tasks a store squashes, by the accesses of the later tasks
abbrev pub squash_count : ℕ → List Entry → ℕ
squash_count a [] = 0
squash_count a (e ∷ es) = cond (exposes a e.accesses) (suc (length es)) (cond (stores_to a e.accesses) 0 (squash_count a es))

pub squashed_by-count : (a : ℕ) (es : List Entry) → Clean es → squashed_by (map (version_of a) es) ≡ squash_count a es
squashed_by-count a [] c = refl
squashed_by-count a (e ∷ es) c =
    rw (mark_of a e (c.0 a), own_of a e (c.0 a), squashed_by-count a es c.1, length-map es (version_of a))

pub squash_count-le : (a : ℕ) (es : List Entry) → squash_count a es ≤ length es
squash_count-le a [] = omega arith
squash_count-le a (e ∷ es) = go (exposes a e.accesses) (stores_to a e.accesses) (squash_count-le a es)
  where
    go : (t u : Bool) → squash_count a es ≤ length es → cond t (suc (length es)) (cond u 0 (squash_count a es)) ≤ suc (length es)
    go true u h = omega arith
    go false true h = omega arith
    go false false h = omega arith

-- what a store leaves of the later tasks exposes no load of its address
pub left-unexposed : (a : ℕ) (es : List Entry) → exposes a (all_accesses (but_last (squash_count a es) es)) ≡ false
left-unexposed a [] = refl
left-unexposed a (e ∷ es) = go (exposes a e.accesses) refl (stores_to a e.accesses) refl (left-unexposed a es)
  where
    go : (t : Bool) → exposes a e.accesses ≡ t → (u : Bool) → stores_to a e.accesses ≡ u
        → exposes a (all_accesses (but_last (squash_count a es) es)) ≡ false
        → exposes a (all_accesses (but_last (cond t (suc (length es)) (cond u 0 (squash_count a es))) (e ∷ es))) ≡ false
    go true x u y h = let z : length (e ∷ es) - suc (length es) ≡ 0 = omega arith in ap (λ (n : ℕ). exposes a (all_accesses (take n (e ∷ es)))) z
    go false x true y h =
        ap (λ l. exposes a (all_accesses l)) (but_last-all (e ∷ es)) ∙ (exposes-++ e.accesses (all_accesses es) a ∙ rw (x, y))
    go false x false y h =
        ap (λ l. exposes a (all_accesses l)) (but_last-cons (squash_count a es) e es (squash_count-le a es))
        ∙ (exposes-++ e.accesses (all_accesses (but_last (squash_count a es) es)) a ∙ rw (x, y) h)

cons_head : {A : Type 0} (x y : A) (xs ys : List A) → x ∷ xs ≡ y ∷ ys → x ≡ y
cons_head x y xs ys e = cc

cons_tail : {A : Type 0} (x y : A) (xs ys : List A) → x ∷ xs ≡ y ∷ ys → xs ≡ ys
cons_tail x y xs ys e = cc

split-le : (es fs : List Entry) (e : Entry) (later : List Entry) → later ≡ es ++ e ∷ fs → length (e ∷ fs) ≤ length later
split-le es fs e later h = rw (h, length-append es (e ∷ fs)) (omega arith)

-- the tasks that a store squashes are exactly those that had to go
pub exact : (a : ℕ) (later : List Entry) → ExactSquash a later (squash_count a later)
exact a [] = record {
  enough = λ es e fs h r. let z = split-le es fs e [] h in absurd (omega arith);
  needed = inl refl;
}
exact a (d ∷ ds) = go (exposes a d.accesses) refl (stores_to a d.accesses) refl (exact a ds)
  where
    go : (t : Bool) → exposes a d.accesses ≡ t → (u : Bool) → stores_to a d.accesses ≡ u → ExactSquash a ds (squash_count a ds)
        → ExactSquash a (d ∷ ds) (cond t (suc (length ds)) (cond u 0 (squash_count a ds)))
    go true x u y again = record {
      enough = λ es e fs h r. split-le es fs e (d ∷ ds) h;
      needed = inr ([], d, ds, refl, reads-from a [] d.accesses refl x, refl);
    }
    go false x true y again = record {
      enough = shut;
      needed = inl refl;
    }
      where
        shut : (es : List Entry) (e : Entry) (fs : List Entry) → d ∷ ds ≡ es ++ e ∷ fs → WouldRead a (all_accesses es) e.accesses → length (e ∷ fs) ≤ 0
        shut [] e fs h r =
            let same : d ≡ e = cons_head d e ds fs h in
            absurd (true≢false (sym (reads-tests a [] e.accesses r).1 ∙ (ap (λ (k : Entry). exposes a k.accesses) (sym same) ∙ x)))
        shut (c ∷ cs) e fs h r =
            let same : d ≡ c = cons_head d c ds (cs ++ e ∷ fs) h in
            let none = (reads-tests a (all_accesses (c ∷ cs)) e.accesses r).0 in
            let parts = or_parts (stores_to a c.accesses) (stores_to a (all_accesses cs)) (sym (stores_to-++ c.accesses (all_accesses cs) a) ∙ none) in
            absurd (true≢false (sym y ∙ (ap (λ (k : Entry). stores_to a k.accesses) same ∙ parts.0)))
    go false x false y again = record {
      enough = on;
      needed = elim again.needed [
        | inl z ↦ inl z
        | inr r ↦ inr (
          d ∷ r.0,
          r.1,
          r.2,
          ap (λ (l : List Entry). d ∷ l) r.3,
          reads-from a (d.accesses ++ all_accesses r.0) r.1.accesses
              (stores_to-++ d.accesses (all_accesses r.0) a ∙ or_from (stores_to a d.accesses) (stores_to a (all_accesses r.0)) y (reads-tests a (all_accesses r.0) r.1.accesses r.4).0)
              (reads-tests a (all_accesses r.0) r.1.accesses r.4).1,
          r.5,
        )
      ];
    }
      where
        on : (es : List Entry) (e : Entry) (fs : List Entry) → d ∷ ds ≡ es ++ e ∷ fs → WouldRead a (all_accesses es) e.accesses → length (e ∷ fs) ≤ squash_count a ds
        on [] e fs h r =
            let same : d ≡ e = cons_head d e ds fs h in
            absurd (true≢false (sym (reads-tests a [] e.accesses r).1 ∙ (ap (λ (k : Entry). exposes a k.accesses) (sym same) ∙ x)))
        on (c ∷ cs) e fs h r =
            let tests = reads-tests a (all_accesses (c ∷ cs)) e.accesses r in
            let parts = or_parts (stores_to a c.accesses) (stores_to a (all_accesses cs)) (sym (stores_to-++ c.accesses (all_accesses cs) a) ∙ tests.0) in
            again.enough cs e fs (cons_tail d c ds (cs ++ e ∷ fs) h) (reads-from a (all_accesses cs) e.accesses parts.1 tests.1)
