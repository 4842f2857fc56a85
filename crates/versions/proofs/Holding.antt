-- What holds of the book's tasks, the committed ones and the rest, and of the memory's words; and that each turn keeps
-- it.
use Rattle.std.proofs.Common.{◌≡◌, ℕ, ◌-◌, ◌<◌, Bool, true, false, cond, eqb, ◌≢◌, List, [], ◌∷◌, ◌++◌, map, length, get_or, take, drop, set, Some, None, Option, unwrap_or, sym, refl, ap, ◌∙◌, subst, ⊎_elim, arith}
use Rattle.std.proofs.lemmas.List.FromFn.{length-map-range_with_len, get_or-map-range_with_len}
use Rattle.std.proofs.lemmas.List.{append_assoc, append-nil, take-append-drop, length-set, get_or-set_same, get_or-set_other}
use Rattle.std.proofs.lemmas.Bool.{cases_eq, eqb-true, eq-eqb, ne_eqb, cond-true, cond-false, or_from}
use Rattle.versions.specs.Cuts.{but_last}
use Rattle.versions.specs.declared.version.Version.{Version}
use Rattle.versions.specs.Versions.{laid_over, seen_by}
use Rattle.versions.specs.Plain.{laid_over_all, written_to}
use Rattle.versions.specs.Book.{Access, loaded, stored, replaced, Entry, with_access, as_committed, all_accesses, first_accesses, after_run, replaces, replaced_stores}
use Rattle.versions.proofs.Cells.{AgreesAt, after_run-++, agrees-join, agrees-left, agrees-right, agrees-any, exposes, replaces-++, unreplaced, replaced-run, replaced_stores-load, replaced_stores-store, replaced_stores-replace}
use Rattle.versions.proofs.Columns.{version_of, Clean, seen_first, squash_count, left-unexposed}

abbrev pub Each : (Entry → Type 0) → List Entry → Type 0
Each P [] = Unit {0}
Each P (e ∷ es) = P e × Each P es

pub each-++ : (P : Entry → Type 0) (xs ys : List Entry) → Each P xs → Each P ys → Each P (xs ++ ys)
each-++ P [] ys h k = k
each-++ P (x ∷ xs) ys h k = (h.0, each-++ P xs ys h.1 k)

pub each_left : (P : Entry → Type 0) (xs ys : List Entry) → Each P (xs ++ ys) → Each P xs
each_left P [] ys h = tt
each_left P (x ∷ xs) ys h = (h.0, each_left P xs ys h.1)

pub each_right : (P : Entry → Type 0) (xs ys : List Entry) → Each P (xs ++ ys) → Each P ys
each_right P [] ys h = h
each_right P (x ∷ xs) ys h = each_right P xs ys h.1

clean-left : (xs ys : List Entry) → Clean (xs ++ ys) → Clean xs
clean-left [] ys c = tt
clean-left (x ∷ xs) ys c = (c.0, clean-left xs ys c.1)

clean-right : (xs ys : List Entry) → Clean (xs ++ ys) → Clean ys
clean-right [] ys c = c
clean-right (x ∷ xs) ys c = clean-right xs ys c.1

clean-join : (xs ys : List Entry) → Clean xs → Clean ys → Clean (xs ++ ys)
clean-join [] ys c d = d
clean-join (x ∷ xs) ys c d = (c.0, clean-join xs ys c.1 d)

-- only the first may have replaced
abbrev pub CleanTail : List Entry → Type 0
CleanTail [] = Unit {0}
CleanTail (e ∷ es) = Clean es

pub all_accesses-++ : (xs ys : List Entry) → all_accesses (xs ++ ys) ≡ all_accesses xs ++ all_accesses ys
all_accesses-++ [] ys = refl
all_accesses-++ (x ∷ xs) ys = rw (all_accesses-++ xs ys, append_assoc x.accesses (all_accesses xs) (all_accesses ys))

-- the word at a after the committed tasks
abbrev pub settled : List ℕ → List Entry → ℕ → ℕ
settled ws done a = after_run (all_accesses done) a (get_or ws a 0)

pub record Held (ws : List ℕ) (done rest : List Entry) (vs : List ℕ) : Type 0 where
  pub closed : Each (λ e. e.committed ≡ true) done
  pub active : Each (λ e. e.committed ≡ false) rest
  pub clean : CleanTail rest
  pub size : length vs ≡ length ws
  pub words : (a : ℕ) → a < length ws → get_or vs a 0 ≡ after_run (replaced_stores (first_accesses rest)) a (settled ws done a)
  pub agrees : (a : ℕ) → AgreesAt a (all_accesses done ++ all_accesses rest) (get_or ws a 0)

-- the tasks past one of the rest have not replaced
pub clean-past : (pre : List Entry) (e : Entry) (post : List Entry) → CleanTail (pre ++ e ∷ post) → Clean post
clean-past [] e post c = c
clean-past (h ∷ pre) e post c = (clean-right pre (e ∷ post) c).1

-- what a task sees: the first of the rest, then some more
pub seen-rest : (ws : List ℕ) (done : List Entry) (vs : List ℕ) (h : Entry) (xs ys : List Entry) → Held ws done (h ∷ (xs ++ ys)) vs → (a : ℕ) → a < length ws
    → seen_by (map (version_of a) (h ∷ xs)) (get_or vs a 0) ≡ after_run (all_accesses (h ∷ xs)) a (settled ws done a)
seen-rest ws done vs h xs ys k a l =
    ap (seen_by (map (version_of a) (h ∷ xs))) (k.words a l) ∙ seen_first h xs a (settled ws done a) (clean-left xs ys k.clean)

pub seen-up_to : (ws : List ℕ) (done : List Entry) (vs : List ℕ) (pre : List Entry) (e : Entry) (post : List Entry) → Held ws done (pre ++ e ∷ post) vs → (a : ℕ) → a < length ws
    → seen_by (map (version_of a) (pre ++ e ∷ [])) (get_or vs a 0) ≡ after_run (all_accesses (pre ++ e ∷ [])) a (settled ws done a)
seen-up_to ws done vs [] e post k a l = seen-rest ws done vs e [] post k a l
seen-up_to ws done vs (h ∷ pre) e post k a l =
    seen-rest ws done vs h (pre ++ e ∷ []) post (subst (λ (r : List Entry). Held ws done (h ∷ r) vs) (sym (append_assoc pre (e ∷ []) post)) k) a l

-- all accesses, cut where the task e has made its own so far
cut-accesses : (done pre : List Entry) (e : Entry) (post : List Entry)
    → all_accesses done ++ all_accesses (pre ++ e ∷ post) ≡ (all_accesses done ++ (all_accesses pre ++ e.accesses)) ++ all_accesses post
cut-accesses done pre e post = simp (all_accesses-++, append_assoc)

-- the same with one more access of e
cut-more : (done pre : List Entry) (e : Entry) (post : List Entry) (x : Access)
    → all_accesses done ++ all_accesses (pre ++ with_access x e ∷ post) ≡ (all_accesses done ++ (all_accesses pre ++ e.accesses)) ++ (x ∷ all_accesses post)
cut-more done pre e post x = simp (all_accesses-++, append_assoc)

-- what stands before e's next access leaves what e sees
cut-run : (ws : List ℕ) (done pre : List Entry) (e : Entry) (a : ℕ)
    → after_run (all_accesses done ++ (all_accesses pre ++ e.accesses)) a (get_or ws a 0) ≡ after_run (all_accesses (pre ++ e ∷ [])) a (settled ws done a)
cut-run ws done pre e a =
    let upto : all_accesses (pre ++ e ∷ []) ≡ all_accesses pre ++ e.accesses = simp (all_accesses-++, append-nil) in
    after_run-++ (all_accesses done) (all_accesses pre ++ e.accesses) a (get_or ws a 0)
    ∙ ap (λ (xs : List Access). after_run xs a (settled ws done a)) (sym upto)

-- one access more of e, after which `later` is left of the tasks past it
pub active-more : (pre : List Entry) (e : Entry) (post later : List Entry) (x : Access) → Each (λ e. e.committed ≡ false) (pre ++ e ∷ post) → Each (λ e. e.committed ≡ false) later
    → Each (λ e. e.committed ≡ false) (pre ++ with_access x e ∷ later)
active-more pre e post later x h k =
    each-++ (λ e. e.committed ≡ false) pre (with_access x e ∷ later) (each_left (λ e. e.committed ≡ false) pre (e ∷ post) h) ((each_right (λ e. e.committed ≡ false) pre (e ∷ post) h).0, k)

clean-more : (pre : List Entry) (e : Entry) (post later : List Entry) (x : Access) → ((a : ℕ) → replaces a (x ∷ []) ≡ false) → CleanTail (pre ++ e ∷ post) → Clean later
    → CleanTail (pre ++ with_access x e ∷ later)
clean-more [] e post later x none c d = d
clean-more (h ∷ pre) e post later x none c d =
    clean-join pre (with_access x e ∷ later) (clean-left pre (e ∷ post) c)
    ((λ a. replaces-++ e.accesses (x ∷ []) a ∙ or_from (replaces a e.accesses) (replaces a (x ∷ [])) ((clean-right pre (e ∷ post) c).0 a) (none a)), d)

-- the replaced stores of the head, after a load or store of e
first_load : (pre : List Entry) (e : Entry) (post later : List Entry) (a v : ℕ)
    → replaced_stores (first_accesses (pre ++ with_access (loaded a v) e ∷ later)) ≡ replaced_stores (first_accesses (pre ++ e ∷ post))
first_load [] e post later a v = replaced_stores-load e.accesses a v
first_load (h ∷ pre) e post later a v = refl

first_store : (pre : List Entry) (e : Entry) (post later : List Entry) (a v : ℕ)
    → replaced_stores (first_accesses (pre ++ with_access (stored a v) e ∷ later)) ≡ replaced_stores (first_accesses (pre ++ e ∷ post))
first_store [] e post later a v = replaced_stores-store e.accesses a v
first_store (h ∷ pre) e post later a v = refl

-- a start
pub held_start : (ws : List ℕ) (done rest : List Entry) (vs : List ℕ) (p : ℕ) → Held ws done rest vs
    → Held ws done (rest ++ record { by = p; committed = false; accesses = [] } ∷ []) vs
held_start ws done rest vs p k = record {
  closed = k.closed;
  active = each-++ (λ e. e.committed ≡ false) rest (record { by = p; committed = false; accesses = [] } ∷ []) k.active (refl, tt);
  clean = tail rest k.clean;
  size = k.size;
  words = λ a l. k.words a l ∙ ap (λ (xs : List Access). after_run (replaced_stores xs) a (settled ws done a)) (sym (same rest));
  agrees = λ a. subst (λ (xs : List Access). AgreesAt a (all_accesses done ++ xs) (get_or ws a 0)) (sym (none rest)) (k.agrees a);
}
  where
    tail : (xs : List Entry) → CleanTail xs → CleanTail (xs ++ record { by = p; committed = false; accesses = [] } ∷ [])
    tail [] c = tt
    tail (x ∷ xs) c = clean-join xs (record { by = p; committed = false; accesses = [] } ∷ []) c ((λ a. refl), tt)

    same : (xs : List Entry) → first_accesses (xs ++ record { by = p; committed = false; accesses = [] } ∷ []) ≡ first_accesses xs
    same [] = refl
    same (x ∷ xs) = refl

    none : (xs : List Entry) → all_accesses (xs ++ record { by = p; committed = false; accesses = [] } ∷ []) ≡ all_accesses xs
    none xs = all_accesses-++ xs (record { by = p; committed = false; accesses = [] } ∷ []) ∙ append-nil (all_accesses xs)

-- a load of a by e, which gave v
pub held-load : (ws : List ℕ) (done : List Entry) (vs : List ℕ) (pre : List Entry) (e : Entry) (post : List Entry) (a v : ℕ)
    → Held ws done (pre ++ e ∷ post) vs → v ≡ after_run (all_accesses (pre ++ e ∷ [])) a (settled ws done a) → Held ws done (pre ++ with_access (loaded a v) e ∷ post) vs
held-load ws done vs pre e post a v k got = record {
  closed = k.closed;
  active = active-more pre e post post (loaded a v) k.active (each_right (λ e. e.committed ≡ false) pre (e ∷ post) k.active).1;
  clean = clean-more pre e post post (loaded a v) (λ b. refl) k.clean (clean-past pre e post k.clean);
  size = k.size;
  words = λ b l. k.words b l ∙ ap (λ (xs : List Access). after_run xs b (settled ws done b)) (sym (first_load pre e post post a v));
  agrees = λ b.
      let upto = all_accesses done ++ (all_accesses pre ++ e.accesses) in
      let old : AgreesAt b (upto ++ all_accesses post) (get_or ws b 0) = subst (λ (xs : List Access). AgreesAt b xs (get_or ws b 0)) (cut-accesses done pre e post) (k.agrees b) in
      subst (λ (xs : List Access). AgreesAt b xs (get_or ws b 0)) (sym (cut-more done pre e post (loaded a v)))
      (agrees-join upto (loaded a v ∷ all_accesses post) b (get_or ws b 0) (agrees-left upto (all_accesses post) b (get_or ws b 0) old) (
        (λ same. subst (λ (c : ℕ). v ≡ after_run upto c (get_or ws c 0)) same (got ∙ sym (cut-run ws done pre e a))),
        agrees-right upto (all_accesses post) b (get_or ws b 0) old,
      ));
}

-- a store of w to a by e, which squashed the tasks that exposed a load of a
pub held-store : (ws : List ℕ) (done : List Entry) (vs : List ℕ) (pre : List Entry) (e : Entry) (post : List Entry) (a w : ℕ)
    → Held ws done (pre ++ e ∷ post) vs → Held ws done (pre ++ with_access (stored a w) e ∷ but_last (squash_count a post) post) vs
held-store ws done vs pre e post a w k =
    let n = length post - squash_count a post in
    let later = take n post in
    let parts : later ++ drop n post ≡ post = take-append-drop n post in
    let past-active : Each (λ e. e.committed ≡ false) post = (each_right (λ e. e.committed ≡ false) pre (e ∷ post) k.active).1 in
    let past-clean : Clean post = clean-past pre e post k.clean in
    record {
      closed = k.closed;
      active = active-more pre e post later (stored a w) k.active
          (each_left (λ e. e.committed ≡ false) later (drop n post) (subst (Each (λ e. e.committed ≡ false)) (sym parts) past-active));
      clean = clean-more pre e post later (stored a w) (λ b. refl) k.clean (clean-left later (drop n post) (subst Clean (sym parts) past-clean));
      size = k.size;
      words = λ b l. k.words b l ∙ ap (λ (xs : List Access). after_run xs b (settled ws done b)) (sym (first_store pre e post later a w));
      agrees = λ b.
          let upto = all_accesses done ++ (all_accesses pre ++ e.accesses) in
          let old : AgreesAt b (upto ++ all_accesses post) (get_or ws b 0) = subst (λ (xs : List Access). AgreesAt b xs (get_or ws b 0)) (cut-accesses done pre e post) (k.agrees b) in
          let right : AgreesAt b (all_accesses later) (after_run upto b (get_or ws b 0)) =
          agrees-left (all_accesses later) (all_accesses (drop n post)) b (after_run upto b (get_or ws b 0))
          (subst (λ (xs : List Access). AgreesAt b xs (after_run upto b (get_or ws b 0))) (ap all_accesses (sym parts) ∙ all_accesses-++ later (drop n post))
          (agrees-right upto (all_accesses post) b (get_or ws b 0) old)) in
          subst (λ (xs : List Access). AgreesAt b xs (get_or ws b 0)) (sym (cut-more done pre e later (stored a w)))
          (agrees-join upto (stored a w ∷ all_accesses later) b (get_or ws b 0) (agrees-left upto (all_accesses post) b (get_or ws b 0) old)
          (shown b (eqb a b) refl (after_run upto b (get_or ws b 0)) right));
    }
  where
    shown : (b : ℕ) (t : Bool) → eqb a b ≡ t → (u : ℕ) → AgreesAt b (all_accesses (but_last (squash_count a post) post)) u → AgreesAt b (all_accesses (but_last (squash_count a post) post)) (cond t w u)
    shown b true same u g =
        agrees-any (all_accesses (but_last (squash_count a post) post)) b u w
        (subst (λ (c : ℕ). exposes c (all_accesses (but_last (squash_count a post) post)) ≡ false) (eqb-true a b same) (left-unexposed a post)) g
    shown b false other u g = g

-- a squash that leaves the first of the rest
pub held-squash : (ws : List ℕ) (done : List Entry) (vs : List ℕ) (h : Entry) (xs ys : List Entry) → Held ws done (h ∷ (xs ++ ys)) vs → Held ws done (h ∷ xs) vs
held-squash ws done vs h xs ys k =
    let parts : all_accesses done ++ all_accesses (h ∷ (xs ++ ys)) ≡ (all_accesses done ++ all_accesses (h ∷ xs)) ++ all_accesses ys = simp (all_accesses-++, append_assoc) in
    record {
      closed = k.closed;
      active = each_left (λ e. e.committed ≡ false) (h ∷ xs) ys k.active;
      clean = clean-left xs ys k.clean;
      size = k.size;
      words = k.words;
      agrees = λ a. agrees-left (all_accesses done ++ all_accesses (h ∷ xs)) (all_accesses ys) a (get_or ws a 0)
          (subst (λ (l : List Access). AgreesAt a l (get_or ws a 0)) parts (k.agrees a));
    }

-- where only the first may have replaced, the first past it has no replaced stores
first-clean : (es : List Entry) (a w : ℕ) → Clean es → after_run (replaced_stores (first_accesses es)) a w ≡ w
first-clean [] a w c = refl
first-clean (e ∷ es) a w c = unreplaced e.accesses a w (c.0 a)

clean-tail : (es : List Entry) → Clean es → CleanTail es
clean-tail [] c = tt
clean-tail (e ∷ es) c = c.1

pub length-laid_over_all : (at : ℕ → Version) (vs : List ℕ) → length (laid_over_all at vs) ≡ length vs
unfolding laid_over_all
length-laid_over_all at vs = length-map-range_with_len (λ a. laid_over (at a) (get_or vs a 0)) 0 (length vs)

pub get_or-laid_over_all : (at : ℕ → Version) (vs : List ℕ) (a : ℕ) → a < length vs → get_or (laid_over_all at vs) a 0 ≡ laid_over (at a) (get_or vs a 0)
unfolding laid_over_all
get_or-laid_over_all at vs a h = get_or-map-range_with_len (λ a. laid_over (at a) (get_or vs a 0)) 0 (length vs) a a 0 h (omega arith)

-- the commit of the head e, whose own words are laid over the memory's
pub held-commit : (ws : List ℕ) (done : List Entry) (vs : List ℕ) (e : Entry) (post : List Entry) (at : ℕ → Version) → ((a : ℕ) → at a ≡ version_of a e)
    → Held ws done (e ∷ post) vs → Held ws (done ++ as_committed e ∷ []) post (laid_over_all at vs)
held-commit ws done vs e post at is k =
    let split : all_accesses (done ++ as_committed e ∷ []) ≡ all_accesses done ++ e.accesses = simp (all_accesses-++, append-nil) in
    let parts : all_accesses done ++ all_accesses (e ∷ post) ≡ all_accesses (done ++ as_committed e ∷ []) ++ all_accesses post = simp (all_accesses-++, append_assoc, append-nil) in
    record {
      closed = each-++ (λ e. e.committed ≡ true) done (as_committed e ∷ []) k.closed (refl, tt);
      active = k.active.1;
      clean = clean-tail post k.clean;
      size = length-laid_over_all at vs ∙ k.size;
      words = λ a l.
          get_or-laid_over_all at vs a (rw k.size l)
          ∙ (ap (λ (v : Version). laid_over v (get_or vs a 0)) (is a)
          ∙ (ap (laid_over (version_of a e)) (k.words a l)
          ∙ (replaced-run e.accesses a (settled ws done a)
          ∙ (sym (ap (λ (xs : List Access). after_run xs a (get_or ws a 0)) split ∙ after_run-++ (all_accesses done) e.accesses a (get_or ws a 0))
          ∙ sym (first-clean post a (settled ws (done ++ as_committed e ∷ []) a) k.clean)))));
      agrees = λ a. subst (λ (l : List Access). AgreesAt a l (get_or ws a 0)) parts (k.agrees a);
    }

-- an own word written to the memory, word by word
get_or-written_to : (o : Option ℕ) (a : ℕ) (vs : List ℕ) (b : ℕ) → b < length vs → get_or (written_to o a vs) b 0 ≡ cond (eqb a b) (unwrap_or o (get_or vs b 0)) (get_or vs b 0)
get_or-written_to None a vs b h = go (eqb a b)
  where
    go : (t : Bool) → get_or vs b 0 ≡ cond t (get_or vs b 0) (get_or vs b 0)
    go true = refl
    go false = refl
get_or-written_to (Some w) a vs b h =
    ⊎_elim
    (λ (e : a ≡ b). subst (λ (c : ℕ). get_or (set vs a w) c 0 ≡ w) e (get_or-set_same vs a w 0 (rw e h)) ∙ sym (cond-true (eqb a b) w (get_or vs b 0) (eq-eqb a b e)))
    (λ (ne : a ≢ b). get_or-set_other vs a b w 0 (λ e. ne (sym e)) ∙ sym (cond-false (eqb a b) w (get_or vs b 0) (ne_eqb a b ne)))
    (cases_eq a b)

pub length-written_to : (o : Option ℕ) (a : ℕ) (vs : List ℕ) → length (written_to o a vs) ≡ length vs
length-written_to None a vs = refl
length-written_to (Some w) a vs = length-set vs a w

-- a replacement of a by the head e
pub held-replace : (ws : List ℕ) (done : List Entry) (vs : List ℕ) (e : Entry) (post : List Entry) (a : ℕ) (v : Version) → v ≡ version_of a e
    → Held ws done (e ∷ post) vs → Held ws done (with_access (replaced a) e ∷ post) (written_to v.own a vs)
held-replace ws done vs e post a v is k =
    let upto = all_accesses done ++ e.accesses in
    let before : all_accesses done ++ all_accesses (e ∷ post) ≡ upto ++ all_accesses post = simp append_assoc in
    let after : all_accesses done ++ all_accesses (with_access (replaced a) e ∷ post) ≡ upto ++ (replaced a ∷ all_accesses post) = simp append_assoc in
    record {
      closed = k.closed;
      active = (k.active.0, k.active.1);
      clean = k.clean;
      size = length-written_to v.own a vs ∙ k.size;
      words = λ b l.
          get_or-written_to v.own a vs b (rw k.size l)
          ∙ (shown b (eqb a b) refl l ∙ sym (replaced_stores-replace e.accesses a b (settled ws done b)));
      agrees = λ b.
          let old : AgreesAt b (upto ++ all_accesses post) (get_or ws b 0) = subst (λ (l : List Access). AgreesAt b l (get_or ws b 0)) before (k.agrees b) in
          subst (λ (l : List Access). AgreesAt b l (get_or ws b 0)) (sym after)
          (agrees-join upto (replaced a ∷ all_accesses post) b (get_or ws b 0) (agrees-left upto (all_accesses post) b (get_or ws b 0) old) (agrees-right upto (all_accesses post) b (get_or ws b 0) old));
    }
  where
    shown : (b : ℕ) (t : Bool) → eqb a b ≡ t → b < length ws
        → cond t (laid_over v (get_or vs b 0)) (get_or vs b 0) ≡ cond t (after_run e.accesses b (settled ws done b)) (after_run (replaced_stores e.accesses) b (settled ws done b))
    shown b true same l =
        ap (λ (u : Version). laid_over u (get_or vs b 0)) (is ∙ ap (λ (c : ℕ). version_of c e) (eqb-true a b same))
        ∙ (ap (laid_over (version_of b e)) (k.words b l) ∙ replaced-run e.accesses b (settled ws done b))
    shown b false other l = k.words b l
