-- One address: what a run of accesses leaves there, which loads it agrees with, and the version that a task's accesses
-- make of it.
use Rattle.std.proofs.Common.{◌≡◌, ℕ, Bool, true, false, cond, not, ◌&&◌, ◌||◌, eqb, List, [], ◌∷◌, ◌++◌, sym, refl, ap, ◌∙◌, arith}
use Rattle.std.proofs.lemmas.Bool.{eqb-true, eqb-false, cond-true, cond-false, or_parts, true≢false}
use Rattle.std.proofs.lemmas.Bool.Decides.{nat_tests}
use Rattle.versions.specs.declared.version.Version.{Version}
use Rattle.versions.specs.Versions.{no_version, is_own, with_load, with_store, laid_over}
use Rattle.versions.specs.Book.{Access, loaded, stored, replaced, leaves, after_run, stores_to, replaces, replaced_stores}

-- every load of a got the word that stood there
abbrev pub AgreesAt : ℕ → List Access → ℕ → Type 0
AgreesAt a [] w = Unit {0}
AgreesAt a (loaded b v ∷ xs) w = (b ≡ a → v ≡ w) × AgreesAt a xs w
AgreesAt a (stored b v ∷ xs) w = AgreesAt a xs (cond (eqb b a) v w)
AgreesAt a (replaced b ∷ xs) w = AgreesAt a xs w

pub after_run-++ : (xs ys : List Access) (a w : ℕ) → after_run (xs ++ ys) a w ≡ after_run ys a (after_run xs a w)
after_run-++ [] ys a w = refl
after_run-++ (x ∷ xs) ys a w = after_run-++ xs ys a (leaves x a w)

pub agrees-join : (xs ys : List Access) (a w : ℕ) → AgreesAt a xs w → AgreesAt a ys (after_run xs a w) → AgreesAt a (xs ++ ys) w
agrees-join [] ys a w g h = h
agrees-join (loaded b v ∷ xs) ys a w g h = (g.0, agrees-join xs ys a w g.1 h)
agrees-join (stored b v ∷ xs) ys a w g h = agrees-join xs ys a (cond (eqb b a) v w) g h
agrees-join (replaced b ∷ xs) ys a w g h = agrees-join xs ys a w g h

pub agrees-left : (xs ys : List Access) (a w : ℕ) → AgreesAt a (xs ++ ys) w → AgreesAt a xs w
agrees-left [] ys a w g = tt
agrees-left (loaded b v ∷ xs) ys a w g = (g.0, agrees-left xs ys a w g.1)
agrees-left (stored b v ∷ xs) ys a w g = agrees-left xs ys a (cond (eqb b a) v w) g
agrees-left (replaced b ∷ xs) ys a w g = agrees-left xs ys a w g

pub agrees-right : (xs ys : List Access) (a w : ℕ) → AgreesAt a (xs ++ ys) w → AgreesAt a ys (after_run xs a w)
agrees-right [] ys a w g = g
agrees-right (loaded b v ∷ xs) ys a w g = agrees-right xs ys a w g.1
agrees-right (stored b v ∷ xs) ys a w g = agrees-right xs ys a (cond (eqb b a) v w) g
agrees-right (replaced b ∷ xs) ys a w g = agrees-right xs ys a w g

-- some load of a stands before every store to a
abbrev pub exposes : ℕ → List Access → Bool
exposes a [] = false
exposes a (loaded b v ∷ xs) = eqb b a || exposes a xs
exposes a (stored b v ∷ xs) = not (eqb b a) && exposes a xs
exposes a (replaced b ∷ xs) = exposes a xs

-- a run that exposes no load of a agrees over any word
pub agrees-any : (xs : List Access) (a w u : ℕ) → exposes a xs ≡ false → AgreesAt a xs w → AgreesAt a xs u
agrees-any [] a w u e g = tt
agrees-any (loaded b v ∷ xs) a w u e g =
    let parts = or_parts (eqb b a) (exposes a xs) e in
    (λ same. absurd (eqb-false b a parts.0 same), agrees-any xs a w u parts.1 g.1)
agrees-any (stored b v ∷ xs) a w u e g = go (eqb b a) e g (λ h k. agrees-any xs a w u h k)
  where
    go : (t : Bool) → (not t && exposes a xs) ≡ false → AgreesAt a xs (cond t v w) → (exposes a xs ≡ false → AgreesAt a xs w → AgreesAt a xs u) → AgreesAt a xs (cond t v u)
    go true e g again = g
    go false e g again = again e g
agrees-any (replaced b ∷ xs) a w u e g = agrees-any xs a w u e g

pub exposes-++ : (xs ys : List Access) (a : ℕ) → exposes a (xs ++ ys) ≡ (exposes a xs || (not (stores_to a xs) && exposes a ys))
exposes-++ [] ys a = refl
exposes-++ (loaded b v ∷ xs) ys a = let h = exposes-++ xs ys a in grind (arith, nat_tests)
exposes-++ (stored b v ∷ xs) ys a = let h = exposes-++ xs ys a in grind (arith, nat_tests)
exposes-++ (replaced b ∷ xs) ys a = exposes-++ xs ys a

pub stores_to-++ : (xs ys : List Access) (a : ℕ) → stores_to a (xs ++ ys) ≡ (stores_to a xs || stores_to a ys)
stores_to-++ [] ys a = refl
stores_to-++ (loaded b v ∷ xs) ys a = stores_to-++ xs ys a
stores_to-++ (stored b v ∷ xs) ys a = let h = stores_to-++ xs ys a in grind (arith, nat_tests)
stores_to-++ (replaced b ∷ xs) ys a = stores_to-++ xs ys a

-- the version that an access makes of a version, and that a run of accesses makes of it
abbrev pub noted : Access → ℕ → Version → Version
noted (loaded b v) a u = cond (eqb b a) (with_load u) u
noted (stored b v) a u = cond (eqb b a) (with_store v u) u
noted (replaced b) a u = cond (eqb b a) no_version u

abbrev pub version_by : List Access → ℕ → Version → Version
version_by [] a u = u
version_by (x ∷ xs) a u = version_by xs a (noted x a u)

-- an access other than a replacement is seen through the version as in the run
lays-load : (t : Bool) (u : Version) (w : ℕ) → laid_over (cond t (with_load u) u) w ≡ laid_over u w
lays-load true u w = refl
lays-load false u w = refl

lays_store : (t : Bool) (u : Version) (v w : ℕ) → laid_over (cond t (with_store v u) u) w ≡ cond t v (laid_over u w)
lays_store true u v w = refl
lays_store false u v w = refl

-- without replacements of a, a task sees at a what the run leaves there
pub laid_over-run : (xs : List Access) (a : ℕ) (u : Version) (w : ℕ) → replaces a xs ≡ false → laid_over (version_by xs a u) w ≡ after_run xs a (laid_over u w)
laid_over-run [] a u w e = refl
laid_over-run (loaded b v ∷ xs) a u w e = laid_over-run xs a (noted (loaded b v) a u) w e ∙ ap (after_run xs a) (lays-load (eqb b a) u w)
laid_over-run (stored b v ∷ xs) a u w e = laid_over-run xs a (noted (stored b v) a u) w e ∙ ap (after_run xs a) (lays_store (eqb b a) u v w)
laid_over-run (replaced b ∷ xs) a u w e =
    let parts = or_parts (eqb b a) (replaces a xs) e in
    laid_over-run xs a (noted (replaced b) a u) w parts.1 ∙ ap (λ (x : Version). after_run xs a (laid_over x w)) (cond-false (eqb b a) no_version u parts.0)

-- and its own word and mark tell of the stores to a and of an exposed load of a
pub is_own-run : (xs : List Access) (a : ℕ) (u : Version) → replaces a xs ≡ false → is_own (version_by xs a u) ≡ (is_own u || stores_to a xs)
is_own-run [] a u e = grind (arith, nat_tests)
is_own-run (loaded b v ∷ xs) a u e = is_own-run xs a (noted (loaded b v) a u) e ∙ go (eqb b a)
  where
    go : (t : Bool) → (is_own (cond t (with_load u) u) || stores_to a xs) ≡ (is_own u || stores_to a xs)
    go true = refl
    go false = refl
is_own-run (stored b v ∷ xs) a u e = is_own-run xs a (noted (stored b v) a u) e ∙ go (eqb b a)
  where
    go : (t : Bool) → (is_own (cond t (with_store v u) u) || stores_to a xs) ≡ (is_own u || (t || stores_to a xs))
    go true = grind (arith, nat_tests)
    go false = refl
is_own-run (replaced b ∷ xs) a u e =
    let parts = or_parts (eqb b a) (replaces a xs) e in
    is_own-run xs a (noted (replaced b) a u) parts.1 ∙ ap (λ (x : Version). is_own x || stores_to a xs) (cond-false (eqb b a) no_version u parts.0)

pub mark-run : (xs : List Access) (a : ℕ) (u : Version) → replaces a xs ≡ false → (version_by xs a u).mark ≡ (u.mark || (not (is_own u) && exposes a xs))
mark-run [] a u e = grind (arith, nat_tests)
mark-run (loaded b v ∷ xs) a u e = mark-run xs a (noted (loaded b v) a u) e ∙ go (eqb b a)
  where
    go : (t : Bool) → ((cond t (with_load u) u).mark || (not (is_own (cond t (with_load u) u)) && exposes a xs)) ≡ (u.mark || (not (is_own u) && (t || exposes a xs)))
    go true = grind (arith, nat_tests)
    go false = refl
mark-run (stored b v ∷ xs) a u e = mark-run xs a (noted (stored b v) a u) e ∙ go (eqb b a)
  where
    go : (t : Bool) → ((cond t (with_store v u) u).mark || (not (is_own (cond t (with_store v u) u)) && exposes a xs)) ≡ (u.mark || (not (is_own u) && (not t && exposes a xs)))
    go true = grind (arith, nat_tests)
    go false = refl
mark-run (replaced b ∷ xs) a u e =
    let parts = or_parts (eqb b a) (replaces a xs) e in
    mark-run xs a (noted (replaced b) a u) parts.1
    ∙ ap (λ (x : Version). x.mark || (not (is_own x) && exposes a xs)) (cond-false (eqb b a) no_version u parts.0)

pub replaces-++ : (xs ys : List Access) (a : ℕ) → replaces a (xs ++ ys) ≡ (replaces a xs || replaces a ys)
replaces-++ [] ys a = refl
replaces-++ (loaded b v ∷ xs) ys a = replaces-++ xs ys a
replaces-++ (stored b v ∷ xs) ys a = replaces-++ xs ys a
replaces-++ (replaced b ∷ xs) ys a = let h = replaces-++ xs ys a in grind (arith, nat_tests)

-- a store that is kept under a test
kept_store : (t : Bool) (b v : ℕ) (ys : List Access) (a w : ℕ) → after_run (cond t (stored b v ∷ ys) ys) a w ≡ after_run ys a (cond (t && eqb b a) v w)
kept_store true b v ys a w = refl
kept_store false b v ys a w = refl

replaces-same : (xs : List Access) (b a : ℕ) → eqb b a ≡ true → replaces b xs ≡ replaces a xs
replaces-same xs b a e = ap (λ (c : ℕ). replaces c xs) (eqb-true b a e)

-- where a is never replaced, no store to a is a replaced one
pub unreplaced : (xs : List Access) (a w : ℕ) → replaces a xs ≡ false → after_run (replaced_stores xs) a w ≡ w
unreplaced [] a w e = refl
unreplaced (loaded b v ∷ xs) a w e = unreplaced xs a w e
unreplaced (stored b v ∷ xs) a w e =
    let same : eqb b a ≡ true → replaces b xs ≡ replaces a xs = replaces-same xs b a in
    let none : (replaces b xs && eqb b a) ≡ false = grind (arith, nat_tests) in
    kept_store (replaces b xs) b v (replaced_stores xs) a w
    ∙ (ap (after_run (replaced_stores xs) a) (cond-false (replaces b xs && eqb b a) v w none) ∙ unreplaced xs a w e)
unreplaced (replaced b ∷ xs) a w e = unreplaced xs a w (or_parts (eqb b a) (replaces a xs) e).1

-- where a is replaced, its version over what the replaced stores left is what the run leaves
own-replaced : (xs : List Access) (a : ℕ) (u : Version) (w : ℕ) → replaces a xs ≡ true → laid_over (version_by xs a u) (after_run (replaced_stores xs) a w) ≡ after_run xs a w
own-replaced [] a u w e = absurd (true≢false (sym e))
own-replaced (loaded b v ∷ xs) a u w e = own-replaced xs a (noted (loaded b v) a u) w e
own-replaced (stored b v ∷ xs) a u w e =
    let same : eqb b a ≡ true → replaces b xs ≡ replaces a xs = replaces-same xs b a in
    let test : (replaces b xs && eqb b a) ≡ eqb b a = grind (arith, nat_tests) in
    ap (laid_over (version_by xs a (noted (stored b v) a u)))
    (kept_store (replaces b xs) b v (replaced_stores xs) a w ∙ ap (λ (t : Bool). after_run (replaced_stores xs) a (cond t v w)) test)
    ∙ own-replaced xs a (noted (stored b v) a u) (cond (eqb b a) v w) e
own-replaced (replaced b ∷ xs) a u w e = go (replaces a xs) refl (λ h. own-replaced xs a (noted (replaced b) a u) w h)
  where
    go : (t : Bool) → replaces a xs ≡ t
        → (replaces a xs ≡ true → laid_over (version_by xs a (noted (replaced b) a u)) (after_run (replaced_stores xs) a w) ≡ after_run xs a w)
        → laid_over (version_by xs a (noted (replaced b) a u)) (after_run (replaced_stores xs) a w) ≡ after_run xs a w
    go true h again = again h
    go false h again =
        let here : eqb b a ≡ true = grind (arith, nat_tests) in
        ap (λ (x : Version). laid_over (version_by xs a x) (after_run (replaced_stores xs) a w)) (cond-true (eqb b a) no_version u here)
        ∙ (laid_over-run xs a no_version (after_run (replaced_stores xs) a w) h ∙ ap (after_run xs a) (unreplaced xs a w h))

-- a task that may have replaced sees, over what its replaced stores left, what its run leaves
pub replaced-run : (xs : List Access) (a w : ℕ) → laid_over (version_by xs a no_version) (after_run (replaced_stores xs) a w) ≡ after_run xs a w
replaced-run xs a w = go (replaces a xs) refl
  where
    go : (t : Bool) → replaces a xs ≡ t → laid_over (version_by xs a no_version) (after_run (replaced_stores xs) a w) ≡ after_run xs a w
    go true h = own-replaced xs a no_version w h
    go false h = laid_over-run xs a no_version (after_run (replaced_stores xs) a w) h ∙ ap (after_run xs a) (unreplaced xs a w h)

-- one more load or store adds no replaced store
or-false : (t : Bool) → (t || false) ≡ t
or-false true = refl
or-false false = refl

pub replaced_stores-load : (xs : List Access) (c u : ℕ) → replaced_stores (xs ++ loaded c u ∷ []) ≡ replaced_stores xs
replaced_stores-load [] c u = refl
replaced_stores-load (loaded b v ∷ xs) c u = replaced_stores-load xs c u
replaced_stores-load (stored b v ∷ xs) c u =
    let h : replaces b (xs ++ loaded c u ∷ []) ≡ replaces b xs = replaces-++ xs (loaded c u ∷ []) b ∙ or-false (replaces b xs) in
    rw (h, replaced_stores-load xs c u)
replaced_stores-load (replaced b ∷ xs) c u = replaced_stores-load xs c u

pub replaced_stores-store : (xs : List Access) (c u : ℕ) → replaced_stores (xs ++ stored c u ∷ []) ≡ replaced_stores xs
replaced_stores-store [] c u = refl
replaced_stores-store (loaded b v ∷ xs) c u = replaced_stores-store xs c u
replaced_stores-store (stored b v ∷ xs) c u =
    let h : replaces b (xs ++ stored c u ∷ []) ≡ replaces b xs = replaces-++ xs (stored c u ∷ []) b ∙ or-false (replaces b xs) in
    rw (h, replaced_stores-store xs c u)
replaced_stores-store (replaced b ∷ xs) c u = replaced_stores-store xs c u

-- one more replacement makes every store to its address a replaced one, and no other
pub replaced_stores-replace : (xs : List Access) (c a w : ℕ) → after_run (replaced_stores (xs ++ replaced c ∷ [])) a w ≡ cond (eqb c a) (after_run xs a w) (after_run (replaced_stores xs) a w)
replaced_stores-replace [] c a w = go (eqb c a)
  where
    go : (t : Bool) → w ≡ cond t w w
    go true = refl
    go false = refl
replaced_stores-replace (loaded b v ∷ xs) c a w = replaced_stores-replace xs c a w
replaced_stores-replace (stored b v ∷ xs) c a w =
    let later = replaces b (xs ++ replaced c ∷ []) in
    let is : later ≡ (replaces b xs || (eqb c b || false)) = replaces-++ xs (replaced c ∷ []) b in
    kept_store later b v (replaced_stores (xs ++ replaced c ∷ [])) a w
    ∙ (replaced_stores-replace xs c a (cond (later && eqb b a) v w)
    ∙ go (eqb c a) refl is)
  where
    go : (t : Bool) → eqb c a ≡ t → replaces b (xs ++ replaced c ∷ []) ≡ (replaces b xs || (eqb c b || false))
        → cond t (after_run xs a (cond (replaces b (xs ++ replaced c ∷ []) && eqb b a) v w)) (after_run (replaced_stores xs) a (cond (replaces b (xs ++ replaced c ∷ []) && eqb b a) v w))
        ≡ cond t (after_run xs a (cond (eqb b a) v w)) (after_run (replaced_stores (stored b v ∷ xs)) a w)
    go true h is =
        let test : (replaces b (xs ++ replaced c ∷ []) && eqb b a) ≡ eqb b a = grind (arith, nat_tests) in
        ap (λ (x : Bool). after_run xs a (cond x v w)) test
    go false h is =
        let test : (replaces b (xs ++ replaced c ∷ []) && eqb b a) ≡ (replaces b xs && eqb b a) = grind (arith, nat_tests) in
        ap (λ (x : Bool). after_run (replaced_stores xs) a (cond x v w)) test ∙ sym (kept_store (replaces b xs) b v (replaced_stores xs) a w)
replaced_stores-replace (replaced b ∷ xs) c a w = replaced_stores-replace xs c a w
