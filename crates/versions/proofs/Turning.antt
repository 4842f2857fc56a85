-- The book and the plain store go together through every turn.
use Rattle.std.proofs.Common.{◌≡◌, ℕ, ◌<◌, ◌≤◌, Bool, true, false, cond, not, ◌||◌, eqb, List, [], ◌∷◌, ◌++◌, map, length, get_or, Some, None, Ok, Option, sym, refl, ap, ◌∙◌, subst, arith}
use Rattle.std.specs.List.{list_any, before_first, after_first}
use Rattle.std.proofs.lemmas.List.{append_assoc, map-append, length-map}
use Rattle.std.proofs.lemmas.Bool.{or_parts, or_from, and_from, and_left, true≢false, not-false, leb-false}
use Rattle.std.proofs.lemmas.Bool.Decides.{nat_tests}
use Rattle.versions.specs.declared.refusal.Refusal.{Refusal}
use Rattle.versions.specs.declared.turn.Turn.{Turn}
use Rattle.versions.specs.declared.turn.Turn.TheVariants.{Start, Load, Store, Squash, Commit, Replace}
use Rattle.versions.specs.Cuts.{up_to, changed, but_last}
use Rattle.versions.specs.declared.version.Version.{Version}
use Rattle.versions.specs.Versions.{no_version, with_load, with_store, seen_by, squashed_by}
use Rattle.versions.specs.Plain.{Task, Plain, fresh, is_on, changed_at, column, task_on, is_head, conditions, refusal_of, given, moved, unless_refused, answer_of, state_after}
use Rattle.versions.specs.Conditions.{answer_unless, first_of}
use Rattle.versions.specs.Book.{loaded, stored, replaced, Entry, Book, is_task_of, with_access, as_committed, accepted, fed_one, all_accesses, after_run}
use Rattle.versions.specs.Sequential.{ExactSquash}
use Rattle.versions.proofs.Cutting.{found, any-++, before_first_at, up_to-at, after_first_at, changed-at, but_last-at, but_last-map}
use Rattle.versions.proofs.Columns.{task_of, version_of, task_of-at, column-task_of, task_of-load, task_of-store, task_of-replace, squash_count, squashed_by-count, squash_count-le, exact}
use Rattle.versions.proofs.Holding.{Each, each_right, Held, clean-past, settled, seen-up_to, held_start, held-load, held-store, held-squash, held-commit, held-replace}

-- the book splits into committed tasks and the rest, and the rest are the plain store's tasks
pub record Together (ws : List ℕ) (b : Book) (s : Plain) : Type 0 where
  pub done : List Entry
  pub rest : List Entry
  pub parts : b ≡ done ++ rest
  pub tasks : s.order ≡ map task_of rest
  pub held : Held ws done rest s.memory

-- the conditions of a turn that is not refused, by place
abbrev Passed : List (Bool × Refusal) → Type 0
Passed [] = Unit {0}
Passed (c ∷ cs) = (c.0 ≡ false) × Passed cs

passed : (cs : List (Bool × Refusal)) → first_of cs ≡ None → Passed cs
passed [] e = tt
passed (c ∷ cs) e = go c.0 refl e (λ h. passed cs h)
  where
    go : (t : Bool) → c.0 ≡ t → cond t (Some c.1) (first_of cs) ≡ None → (first_of cs ≡ None → Passed cs) → (c.0 ≡ false) × Passed cs
    go true h e again = let z : ◌≡◌ {A = ℕ} 0 1 = cc in absurd (omega arith)
    go false h e again = (h, again e)

abbrev entry_on : ℕ → Entry → Bool
entry_on p e = eqb e.by p

any-task_of : (p : ℕ) (es : List Entry) → list_any (is_on p) (map task_of es) ≡ list_any (entry_on p) es
any-task_of p [] = refl
any-task_of p (e ∷ es) = ap (λ (t : Bool). entry_on p e || t) (any-task_of p es)

none-committed : (p : ℕ) (es : List Entry) → Each (λ e. e.committed ≡ true) es → list_any (is_task_of p) es ≡ false
none-committed p [] h = refl
none-committed p (e ∷ es) h = let c = h.0 in let r = none-committed p es h.1 in grind (arith, nat_tests)

none_elsewhere : (p : ℕ) (es : List Entry) → list_any (entry_on p) es ≡ false → list_any (is_task_of p) es ≡ false
none_elsewhere p [] h = refl
none_elsewhere p (e ∷ es) h =
    let q = or_parts (entry_on p e) (list_any (entry_on p) es) h in
    or_from (is_task_of p e) (list_any (is_task_of p) es) (and_left (entry_on p e) (not e.committed) q.0) (none_elsewhere p es q.1)

-- where p's task stands, in the book and in the plain store
record Spot (ws : List ℕ) (b : Book) (s : Plain) (p : ℕ) : Type 0 where
  done : List Entry
  pre : List Entry
  here : Entry
  post : List Entry
  book : b ≡ (done ++ pre) ++ here ∷ post
  order : s.order ≡ map task_of pre ++ task_of here ∷ map task_of post
  held : Held ws done (pre ++ here ∷ post) s.memory
  book-none : list_any (is_task_of p) (done ++ pre) ≡ false
  book-here : is_task_of p here ≡ true
  plain-none : list_any (is_on p) (map task_of pre) ≡ false
  plain_here : is_on p (task_of here) ≡ true

spot : (ws : List ℕ) (b : Book) (s : Plain) (p : ℕ) → Together ws b s → list_any (is_on p) s.order ≡ true → Spot ws b s p
spot ws b s p i e =
    let f = found (entry_on p) i.rest (sym (any-task_of p i.rest) ∙ (ap (list_any (is_on p)) (sym i.tasks) ∙ e)) in
    let k : Held ws i.done (f.front ++ f.here ∷ f.back) s.memory = subst (λ (r : List Entry). Held ws i.done r s.memory) f.parts i.held in
    let free : f.here.committed ≡ false = (each_right (λ e. e.committed ≡ false) f.front (f.here ∷ f.back) k.active).0 in
    record {
      done = i.done;
      pre = f.front;
      here = f.here;
      post = f.back;
      book = i.parts ∙ (ap (λ (r : List Entry). i.done ++ r) f.parts ∙ sym (append_assoc i.done f.front (f.here ∷ f.back)));
      order = i.tasks ∙ (ap (map task_of) f.parts ∙ map-append task_of f.front (f.here ∷ f.back));
      held = k;
      book-none = any-++ (is_task_of p) i.done f.front ∙ or_from (list_any (is_task_of p) i.done) (list_any (is_task_of p) f.front) (none-committed p i.done k.closed) (none_elsewhere p f.front f.none);
      book-here = and_from (entry_on p f.here) (not f.here.committed) f.passes (ap not free);
      plain-none = any-task_of p f.front ∙ f.none;
      plain_here = f.passes;
    }

-- p's task of a list that has it
pub task_on-at : (p : ℕ) (pre : List Task) (t : Task) (post : List Task) → list_any (is_on p) pre ≡ false → is_on p t ≡ true → task_on p (pre ++ t ∷ post) ≡ t
task_on-at p [] t post none here = rw here
task_on-at p (u ∷ pre) t post none here = let q = or_parts (is_on p u) (list_any (is_on p) pre) none in rw (q.0, task_on-at p pre t post q.1 here)

module _ (ws : List ℕ) (b : Book) (s : Plain) where
  start-together : (p n : ℕ) → Together ws b s → Together ws (accepted b (Start p) n) (moved s (Start p))
  start-together p n i =
      let new : Entry = record { by = p; committed = false; accesses = [] } in
      record {
        done = i.done;
        rest = i.rest ++ new ∷ [];
        parts = ap (λ (r : Book). r ++ new ∷ []) i.parts ∙ append_assoc i.done i.rest (new ∷ []);
        tasks = ap (λ (r : List Task). r ++ fresh p ∷ []) i.tasks ∙ sym (map-append task_of i.rest (new ∷ []));
        held = held_start ws i.done i.rest s.memory p i.held;
      }

  module _ (p : ℕ) (x : Spot ws b s p) where
    -- the book with p's task changed
    book-changed : (g : Entry → Entry) → changed (is_task_of p) g b ≡ x.done ++ (x.pre ++ g x.here ∷ x.post)
    book-changed g =
        ap (changed (is_task_of p) g) x.book
        ∙ (changed-at (is_task_of p) x.here x.post x.book-here g (x.done ++ x.pre) x.book-none ∙ append_assoc x.done x.pre (g x.here ∷ x.post))

    order-changed : (g : Task → Task) (e : Entry) → g (task_of x.here) ≡ task_of e → changed (is_on p) g s.order ≡ map task_of (x.pre ++ e ∷ x.post)
    order-changed g e same =
        ap (changed (is_on p) g) x.order
        ∙ (changed-at (is_on p) (task_of x.here) (map task_of x.post) x.plain_here g (map task_of x.pre) x.plain-none
        ∙ (ap (λ (t : Task). map task_of x.pre ++ t ∷ map task_of x.post) same ∙ sym (map-append task_of x.pre (e ∷ x.post))))

    task-is : task_on p s.order ≡ task_of x.here
    task-is = ap (task_on p) x.order ∙ task_on-at p (map task_of x.pre) (task_of x.here) (map task_of x.post) x.plain-none x.plain_here

    later-is : (a : ℕ) → column a (after_first (is_on p) s.order) ≡ map (version_of a) x.post
    later-is a =
        ap (λ (r : List Task). column a (after_first (is_on p) r)) x.order
        ∙ (ap (column a) (after_first_at (is_on p) (task_of x.here) (map task_of x.post) x.plain_here (map task_of x.pre) x.plain-none) ∙ column-task_of x.post a)

    -- what a load sees is what the run leaves
    load-sees : (a : ℕ) → a < length ws
        → given s (Load p a) ≡ after_run (all_accesses (x.pre ++ x.here ∷ [])) a (settled ws x.done a)
    load-sees a l =
        let upto : up_to (is_on p) s.order ≡ map task_of (x.pre ++ x.here ∷ []) =
        ap (up_to (is_on p)) x.order
        ∙ (up_to-at (is_on p) (task_of x.here) (map task_of x.post) x.plain_here (map task_of x.pre) x.plain-none ∙ sym (map-append task_of x.pre (x.here ∷ []))) in
        ap (λ (c : List Version). seen_by c (get_or s.memory a 0)) (ap (column a) upto ∙ column-task_of (x.pre ++ x.here ∷ []) a)
        ∙ seen-up_to ws x.done s.memory x.pre x.here x.post x.held a l

    load-together : (a : ℕ) → a < length ws → Together ws (accepted b (Load p a) (given s (Load p a))) (moved s (Load p a))
    load-together a l =
        let n = given s (Load p a) in
        record {
          done = x.done;
          rest = x.pre ++ with_access (loaded a n) x.here ∷ x.post;
          parts = book-changed (with_access (loaded a n));
          tasks = order-changed (changed_at a with_load) (with_access (loaded a n) x.here) (sym (task_of-load x.here a n));
          held = held-load ws x.done s.memory x.pre x.here x.post a n x.held (load-sees a l);
        }

    -- a store cuts both at the same place
    store-together : (a w : ℕ) → Together ws (accepted b (Store p a w) (given s (Store p a w))) (moved s (Store p a w))
    store-together a w =
        let m = squash_count a x.post in
        let count : given s (Store p a w) ≡ m = ap squashed_by (later-is a) ∙ squashed_by-count a x.post (clean-past x.pre x.here x.post x.held.clean) in
        let le : m ≤ length x.post = squash_count-le a x.post in
        let left = but_last m x.post in
        let e = with_access (stored a w) x.here in
        record {
          done = x.done;
          rest = x.pre ++ e ∷ left;
          parts =
              ap (λ (n : ℕ). changed (is_task_of p) (with_access (stored a w)) (but_last n b)) count
              ∙ (ap (λ (r : Book). changed (is_task_of p) (with_access (stored a w)) (but_last m r)) x.book
              ∙ (ap (changed (is_task_of p) (with_access (stored a w))) (but_last-at m (x.done ++ x.pre) x.here x.post le)
              ∙ (changed-at (is_task_of p) x.here left x.book-here (with_access (stored a w)) (x.done ++ x.pre) x.book-none
              ∙ append_assoc x.done x.pre (e ∷ left))));
          tasks =
              ap (λ (n : ℕ). changed (is_on p) (changed_at a (with_store w)) (but_last n s.order)) count
              ∙ (ap (λ (r : List Task). changed (is_on p) (changed_at a (with_store w)) (but_last m r)) x.order
              ∙ (ap (changed (is_on p) (changed_at a (with_store w))) (but_last-at m (map task_of x.pre) (task_of x.here) (map task_of x.post) (rw length-map le))
              ∙ (changed-at (is_on p) (task_of x.here) (but_last m (map task_of x.post)) x.plain_here (changed_at a (with_store w)) (map task_of x.pre) x.plain-none
              ∙ (ap (λ (t : Task). map task_of x.pre ++ t ∷ but_last m (map task_of x.post)) (sym (task_of-store x.here a w))
              ∙ (ap (λ (r : List Task). map task_of x.pre ++ task_of e ∷ r) (but_last-map m task_of x.post)
              ∙ sym (map-append task_of x.pre (e ∷ left)))))));
          held = held-store ws x.done s.memory x.pre x.here x.post a w x.held;
        }

    squash-together : (n : ℕ) → is_head p s.order ≡ false → Together ws (accepted b (Squash p) n) (moved s (Squash p))
    squash-together n other = record {
      done = x.done;
      rest = x.pre;
      parts = ap (before_first (is_task_of p)) x.book ∙ before_first_at (is_task_of p) x.here x.post x.book-here (x.done ++ x.pre) x.book-none;
      tasks = ap (before_first (is_on p)) x.order ∙ before_first_at (is_on p) (task_of x.here) (map task_of x.post) x.plain_here (map task_of x.pre) x.plain-none;
      held = front-held x.pre (sym (ap (is_head p) x.order) ∙ other) x.plain_here x.held;
    }
      where
        front-held : (pre : List Entry) → is_head p (map task_of pre ++ task_of x.here ∷ map task_of x.post) ≡ false → is_on p (task_of x.here) ≡ true
            → Held ws x.done (pre ++ x.here ∷ x.post) s.memory → Held ws x.done pre s.memory
        front-held [] other here k = absurd (true≢false (sym here ∙ other))
        front-held (h ∷ pre) other here k = held-squash ws x.done s.memory h pre (x.here ∷ x.post) k

    -- where p has the head, nothing stands before its task
    front-empty : is_head p s.order ≡ true → x.pre ≡ []
    front-empty head = go x.pre (sym (ap (is_head p) x.order) ∙ head) x.plain-none
      where
        go : (pre : List Entry) → is_head p (map task_of pre ++ task_of x.here ∷ map task_of x.post) ≡ true → list_any (is_on p) (map task_of pre) ≡ false → pre ≡ []
        go [] first none = refl
        go (h ∷ pre) first none = absurd (true≢false (sym first ∙ (or_parts (is_on p (task_of h)) (list_any (is_on p) (map task_of pre)) none).0))

    head-held : is_head p s.order ≡ true → Held ws x.done (x.here ∷ x.post) s.memory
    head-held head = subst (λ (pre : List Entry). Held ws x.done (pre ++ x.here ∷ x.post) s.memory) (front-empty head) x.held

    commit-together : (n : ℕ) → is_head p s.order ≡ true → Together ws (accepted b (Commit p) n) (moved s (Commit p))
    commit-together n head =
        let none = front-empty head in
        record {
          done = x.done ++ as_committed x.here ∷ [];
          rest = x.post;
          parts =
              book-changed as_committed
              ∙ (ap (λ (pre : List Entry). x.done ++ (pre ++ as_committed x.here ∷ x.post)) none ∙ sym (append_assoc x.done (as_committed x.here ∷ []) x.post));
          tasks =
              ap (λ (r : List Task). before_first (is_on p) r ++ after_first (is_on p) r) x.order
              ∙ (ap (λ (r : List Task). r ++ after_first (is_on p) (map task_of x.pre ++ task_of x.here ∷ map task_of x.post)) (before_first_at (is_on p) (task_of x.here) (map task_of x.post) x.plain_here (map task_of x.pre) x.plain-none)
              ∙ (ap (λ (r : List Task). map task_of x.pre ++ r) (after_first_at (is_on p) (task_of x.here) (map task_of x.post) x.plain_here (map task_of x.pre) x.plain-none)
              ∙ ap (λ (pre : List Entry). map task_of pre ++ map task_of x.post) none));
          held = held-commit ws x.done s.memory x.here x.post (task_on p s.order).at (λ a. ap (λ (t : Task). t.at a) task-is ∙ task_of-at x.here a) (head-held head);
        }

    replace-together : (a n : ℕ) → is_head p s.order ≡ true → Together ws (accepted b (Replace p a) n) (moved s (Replace p a))
    replace-together a n head =
        let none = front-empty head in
        let e = with_access (replaced a) x.here in
        record {
          done = x.done;
          rest = e ∷ x.post;
          parts = book-changed (with_access (replaced a)) ∙ ap (λ (pre : List Entry). x.done ++ (pre ++ e ∷ x.post)) none;
          tasks = order-changed (changed_at a (λ v. no_version)) e (sym (task_of-replace x.here a)) ∙ ap (λ (pre : List Entry). map task_of (pre ++ e ∷ x.post)) none;
          held = held-replace ws x.done s.memory x.here x.post a ((task_on p s.order).at a) (ap (λ (t : Task). t.at a) task-is ∙ task_of-at x.here a) (head-held head);
        }

    -- and what a store squashes is exact
    store-exact : (a w : ℕ) → ExactSquash a (after_first (is_task_of p) b) (given s (Store p a w))
    store-exact a w =
        let count : given s (Store p a w) ≡ squash_count a x.post = ap squashed_by (later-is a) ∙ squashed_by-count a x.post (clean-past x.pre x.here x.post x.held.clean) in
        let later : after_first (is_task_of p) b ≡ x.post = ap (after_first (is_task_of p)) x.book ∙ after_first_at (is_task_of p) x.here x.post x.book-here (x.done ++ x.pre) x.book-none in
        subst (λ (n : ℕ). ExactSquash a (after_first (is_task_of p) b) n) (sym count) (subst (λ (l : List Entry). ExactSquash a l (squash_count a x.post)) (sym later) (exact a x.post))

-- an accepted turn keeps them together
accepted-together : (ws : List ℕ) (b : Book) (s : Plain) (t : Turn) → Together ws b s → Passed (conditions s t) → Together ws (accepted b t (given s t)) (moved s t)
accepted-together ws b s (Start p) i c = start-together ws b s p (length s.order) i
accepted-together ws b s (Load p a) i c =
    load-together ws b s p (spot ws b s p i (not-false (list_any (is_on p) s.order) c.1.0)) a
    (subst (λ (n : ℕ). a < n) i.held.size (leb-false (length s.memory) a c.1.1.0))
accepted-together ws b s (Store p a w) i c = store-together ws b s p (spot ws b s p i (not-false (list_any (is_on p) s.order) c.1.0)) a w
accepted-together ws b s (Squash p) i c =
    squash-together ws b s p (spot ws b s p i (not-false (list_any (is_on p) s.order) c.1.0)) (given s (Squash p)) c.1.1.0
accepted-together ws b s (Commit p) i c =
    commit-together ws b s p (spot ws b s p i (not-false (list_any (is_on p) s.order) c.1.0)) (given s (Commit p)) (not-false (is_head p s.order) c.1.1.0)
accepted-together ws b s (Replace p a) i c =
    replace-together ws b s p (spot ws b s p i (not-false (list_any (is_on p) s.order) c.1.0)) a (given s (Replace p a)) (not-false (is_head p s.order) c.1.1.1.0)

-- every turn does
pub turn-together : (ws : List ℕ) (b : Book) (s : Plain) (t : Turn) → Together ws b s → Together ws (fed_one b t (answer_of s t)) (state_after s t)
unfolding answer_of state_after
turn-together ws b s t i = go (refusal_of s t) refl
  where
    go : (o : Option Refusal) → refusal_of s t ≡ o → Together ws (fed_one b t (answer_unless o (given s t))) (unless_refused o s (moved s t))
    go None h = accepted-together ws b s t i (passed (conditions s t) h)
    go (Some r) h = i

-- a store that was answered with a number squashed exactly what had to go
pub answered-exact : (ws : List ℕ) (b : Book) (s : Plain) (p a w n : ℕ) → Together ws b s → Ok n ≡ answer_of s (Store p a w) → ExactSquash a (after_first (is_task_of p) b) n
unfolding answer_of
answered-exact ws b s p a w n i e = go (refusal_of s (Store p a w)) refl e
  where
    go : (o : Option Refusal) → refusal_of s (Store p a w) ≡ o → Ok n ≡ answer_unless o (given s (Store p a w)) → ExactSquash a (after_first (is_task_of p) b) n
    go None h e =
        let c = passed (conditions s (Store p a w)) h in
        let same : n ≡ given s (Store p a w) = cc in
        subst (λ (m : ℕ). ExactSquash a (after_first (is_task_of p) b) m) (sym same) (store-exact ws b s p (spot ws b s p i (not-false (list_any (is_on p) s.order) c.1.0)) a w)
    go (Some r) h e = let z : ◌≡◌ {A = ℕ} 0 1 = cc in absurd (omega arith)
