-- A turn that the snooping store serves: from its changes of words, order and lines to the plain store's answer and state,
-- the lines of that state, and the report.
use Rattle.std.proofs.Common.{◌≡◌, ℕ, zero, suc, ◌+◌, ◌-◌, ◌%◌, ◌<◌, ◌≤◌, Bool, true, false, cond, not, ◌&&◌, ◌||◌, eqb, List, [], ◌∷◌, ◌++◌, map, length, get_or, take, drop, is_some, Some, None, Ok, Err, Option, Result, unwrap_or, sym, refl, ap, ◌∙◌, subst, ⊎_elim, add-one, arith}
use mathlib.Core.Path.{fun_ext}
use Rattle.std.specs.Option.{option_map, option_or}
use Rattle.std.proofs.lemmas.List.{drop-take, take-take, take-append-drop, take_all, drop_all, map-append, length-map, length-drop, get_or-drop}
use Rattle.std.proofs.lemmas.Bool.{eqb-true, eq-eqb, ne_eqb, cases_eq, cases_lt, cond-true, cond-false, true≢false, and_left, and_from}
use Rattle.memory.specs.Client.{count_below}
use Rattle.versions.specs.declared.refusal.Refusal.{Refusal}
use Rattle.versions.specs.declared.turn.Turn.{Turn}
use Rattle.versions.specs.declared.turn.Turn.TheVariants.{Start, Load, Store, Squash, Commit, Replace}
use Rattle.versions.specs.declared.version.Version.{Version}
use Rattle.versions.specs.Orders.{place_in, Apart}
use Rattle.versions.specs.Plain.{Plain, refusal_of, laid_over_all, written_to, answer_of, state_after}
use Rattle.versions.specs.Tables.{Table, plain_of, empty_table, with_version, without, without_all, Fitting, with_processor, access_place, start_place, squash_place, commit_place, replace_place, last_own}
use Rattle.versions.specs.Versions.{no_version, is_held, is_own, with_load, with_store, laid_over, seen_by, squashed_by}
use Rattle.versions.proofs.Classes.{unheld-none}
use Rattle.versions.proofs.Fits.{none-join, without_all-value, front_out}
use Rattle.versions.specs.Taken.{Took}
use Rattle.versions.proofs.Judging.{Agrees, ok-start, ok-access, ok-commit, ok-replace}
use Rattle.versions.proofs.Ordering.{apart-push, apart-take, apart-drop, none-some, place_in-cons, place-first}
use Rattle.versions.proofs.Serving.{Served, refused-by, class-free, serve-start, serve-load, serve-store, serve-squash, serve-commit, serve-replace}
use Rattle.versions.proofs.Tabling.{placed, none-past, place-take, squashes, squashes-le}
use Rattle.snooping.specs.declared.cache.Cache.{Cache}
use Rattle.snooping.specs.declared.line.Line.{Line}
use Rattle.snooping.specs.declared.report.BusReport.{BusReport}
use Rattle.snooping.specs.declared.state.LineState.{LineState}
use Rattle.snooping.specs.declared.state.LineState.TheVariants.{Invalid, Loaded, Stored, Both}
use Rattle.snooping.specs.declared.state.LineEvent.TheVariants.{Load as LoadLine, Store as StoreLine, Commit as CommitLine}
use Rattle.snooping.specs.declared.store.SnoopingStore.{SnoopingStore}
use Rattle.snooping.specs.Caches.{processors_of}
use Rattle.snooping.specs.Grid.{LineTable, Linked, Pointing, line_in, Wide, table_by, with_line, with_cache, holder, relinked, cut_to}
use Rattle.versions.specs.Tables.{last_that}
use Rattle.snooping.specs.Layout.{lines_of}
use Rattle.snooping.specs.Lines.{blank, version_in, version_at, with_taken, with_next, ended}
use Rattle.snooping.specs.Report.{quiet, bus_read, bus_write, written_back, supplied_by, reached, powers, written_last, report_of, report_after}
use Rattle.snooping.specs.Snooping.{plain_in, SoundSnooping, Shown, supplied_word}
use Rattle.snooping.specs.States.{has_s}
use Rattle.snooping.proofs.Ending.{cut-table, keep-cut, commit-table, keep-commit, replace-table, keep-replace}
use Rattle.snooping.proofs.Holders.{holder-same, holder-none, same-column, seen-append, seen-owns, hidden-copy, take-place, place-once, place-value}
use Rattle.snooping.proofs.Keeping.{Laid, laid-linked, laid-pointing, shown, shows, keep-start, mid, mid-table, keep-change}
use Rattle.snooping.proofs.Laying.{caches-laid, laid-caches, own-word, some-if, last-seen}
use Rattle.snooping.proofs.Linking.{relinked-same, relinked-class, relinked-unheld, relinked-held, relinked-table}
use Rattle.snooping.proofs.Reporting.{reported, unreported, report-load, report-store, report-commit, report-replace}

pub record Turned (s : Plain) (t : Turn) (old : BusReport) (r : Result ℕ Refusal) (ws ps : List ℕ) (cs : List Cache) (now : BusReport) : Type 0 where
  pub answer : r ≡ answer_of s t
  pub after : plain_of ws ps (table_by (line_in cs)) ≡ state_after s t
  pub apart : Apart ps
  pub fits : Fitting (length ws) ps (table_by (line_in cs))
  pub lines : cs ≡ lines_of (plain_of ws ps (table_by (line_in cs)))
  pub report : now ≡ report_after old s t

turned : (s : Plain) (t : Turn) (old : BusReport) (n : ℕ) (ws ps : List ℕ) (cs : List Cache) (table : Table) (now : BusReport) → Served s t (Ok n) ws ps table → table_by (line_in cs) ≡ table → Wide cs → Apart ps
    → Laid ws ps (line_in cs) → now ≡ report_of s t → Turned s t old (Ok n) ws ps cs now
turned s t old n ws ps cs table now served same wide apart laid report =
    let fits : Fitting (length ws) ps (table_by (line_in cs)) = subst (Fitting (length ws) ps) (sym same) served.fits in
    record {
      answer = served.answer;
      after = ap (plain_of ws ps) same ∙ served.after;
      apart = apart;
      fits = fits;
      lines = caches-laid ws ps cs wide laid apart fits;
      report = report ∙ reported old s t n served.answer;
    }

-- what opens
pub blank-table : table_by (λ q c. blank) ≡ empty_table
blank-table = fun_ext (λ q. fun_ext (λ b. go (eqb 0 b)))
  where
    go : (t : Bool) → cond t no_version no_version ≡ no_version
    go true = refl
    go false = refl

pub laid-empty : (ws : List ℕ) → Laid ws [] (λ q c. blank)
laid-empty ws = record {
  bare = λ q c e. refl;
  class = λ q c e. absurd (true≢false (sym e));
  next = λ q k c place e. absurd (true≢false (sym e));
  word = λ q k c place e f. absurd (true≢false (sym e));
}

held-mark : (v : Version) → is_held v ≡ true → is_own v ≡ false → v.mark ≡ true
held-mark v h o = go v.mark (ap (λ (t : Bool). v.mark || t) (sym o) ∙ h)
  where
    go : (t : Bool) → (t || false) ≡ true → t ≡ true
    go true e = refl
    go false e = e

own_held : (v : Version) → is_own v ≡ true → is_held v ≡ true
own_held v o = go v.mark
  where
    go : (t : Bool) → (t || is_own v) ≡ true
    go true = refl
    go false = o

load-held : (v : Version) → is_held v ≡ true → with_load v ≡ v
load-held v h = ap (λ (t : Bool). record { mark = t; own = v.own }) (go v.mark (is_own v) h)
  where
    go : (t u : Bool) → (t || u) ≡ true → (t || not u) ≡ t
    go true u e = refl
    go false true e = refl
    go false false e = sym e

-- the table with a version that it has
with-same : (table : Table) (p a : ℕ) (v : Version) → v ≡ table p a → table ≡ with_version table p a v
with-same table p a v e = fun_ext (λ q. fun_ext (λ b. go q b (eqb q p) (eqb a b) refl refl))
  where
    go : (q b : ℕ) (t u : Bool) → eqb q p ≡ t → eqb a b ≡ u → table q b ≡ cond (t && u) v (table q b)
    go q b true true x y = sym (e ∙ (ap (λ (r : ℕ). table r a) (sym (eqb-true q p x)) ∙ ap (table q) (eqb-true a b y)))
    go q b true false x y = refl
    go q b false u x y = refl

last-passes : (f : ℕ → Bool) (qs : List ℕ) (q : ℕ) → last_that f qs ≡ Some q → (f q ≡ true) × (is_some (place_in qs q) ≡ true)
last-passes f [] q e = absurd (none-some q (sym e))
last-passes f (r ∷ qs) q e = go (last_that f qs) refl (f r) refl e (λ i. last-passes f qs q i)
  where
    more : (t : Bool) (o : Option ℕ) → is_some o ≡ true → is_some (cond t (Some 0) (option_map suc o)) ≡ true
    more true o x = refl
    more false None x = x
    more false (Some k) x = refl

    go : (o : Option ℕ) → last_that f qs ≡ o → (t : Bool) → f r ≡ t → last_that f (r ∷ qs) ≡ Some q → (last_that f qs ≡ Some q → (f q ≡ true) × (is_some (place_in qs q) ≡ true)) → (f q ≡ true) × (is_some (place_in (r ∷ qs) q) ≡ true)
    go (Some x) i t s e again =
        let is : Some x ≡ Some q = sym (ap (λ (o : Option ℕ). option_or o (cond (f r) (Some r) None)) i) ∙ e in
        let y = again (i ∙ is) in
        (y.0, ap is_some (place_in-cons r qs q) ∙ more (eqb r q) (place_in qs q) y.1)
    go None i true s e again =
        let is : Some r ≡ Some q = sym (ap (λ (o : Option ℕ). option_or o (cond (f r) (Some r) None)) i ∙ ap (λ (t : Bool). cond t (Some r) None) s) ∙ e in
        let same : r ≡ q = cc in
        (ap f (sym same) ∙ s, subst (λ (x : ℕ). is_some (place_in (r ∷ qs) x) ≡ true) same (ap is_some (place-first r qs r (eq-eqb r r refl))))
    go None i false s e again =
        let is : None ≡ Some q = sym (ap (λ (o : Option ℕ). option_or o (cond (f r) (Some r) None)) i ∙ ap (λ (t : Bool). cond t (Some r) None) s) ∙ e in
        absurd (none-some q (sym is))

-- what the last of some tasks sees is the word of the last that has one
abbrev last_seen : (ℕ → Version) → ℕ → Option ℕ → ℕ
last_seen f w None = w
last_seen f w (Some q) = unwrap_or (f q).own w

seen_last : (f : ℕ → Version) (qs : List ℕ) (w : ℕ) → seen_by (map f qs) w ≡ last_seen f w (last_that (λ q. is_own (f q)) qs)
seen_last f [] w = refl
seen_last f (q ∷ qs) w = seen_last f qs (laid_over (f q) w) ∙ go (last_that (λ r. is_own (f r)) qs) refl
  where
    any_word : (o : Option ℕ) (u v : ℕ) → is_some o ≡ true → unwrap_or o u ≡ unwrap_or o v
    any_word None u v e = absurd (true≢false (sym e))
    any_word (Some x) u v e = refl

    here : (t : Bool) → is_own (f q) ≡ t → laid_over (f q) w ≡ last_seen f w (cond t (Some q) None)
    here true e = refl
    here false e = no_own (f q).own e
      where
        no_own : (o : Option ℕ) → is_some o ≡ false → unwrap_or o w ≡ w
        no_own None i = refl
        no_own (Some u) i = absurd (true≢false i)

    go : (o : Option ℕ) → last_that (λ r. is_own (f r)) qs ≡ o → last_seen f (laid_over (f q) w) o ≡ last_seen f w (option_or o (cond (is_own (f q)) (Some q) None))
    go None e = here (is_own (f q)) refl
    go (Some r) e = any_word (f r).own (laid_over (f q) w) w (last-passes (λ x. is_own (f x)) qs r e).0

squash-none : (table : Table) (a : ℕ) (qs : List ℕ) → holder table a qs ≡ None → squashed_by (map (λ q. table q a) qs) ≡ 0
squash-none table a [] e = refl
squash-none table a (q ∷ qs) e = go (table q a).mark (is_own (table q a)) refl refl (λ f. squash-none table a qs f)
  where
    held : (t u : Bool) → (table q a).mark ≡ t → is_own (table q a) ≡ u → is_held (table q a) ≡ (t || u)
    held t u e f = ap (λ (x : Bool). x || is_own (table q a)) e ∙ ap (λ (x : Bool). t || x) f

    go : (t u : Bool) → (table q a).mark ≡ t → is_own (table q a) ≡ u → (holder table a qs ≡ None → squashed_by (map (λ r. table r a) qs) ≡ 0)
        → cond (table q a).mark (suc (length (map (λ r. table r a) qs))) (cond (is_own (table q a)) 0 (squashed_by (map (λ r. table r a) qs))) ≡ 0
    go true u m o again = absurd (none-some q (sym (ap (λ (x : Bool). cond x (Some q) (holder table a qs)) (held true u m o)) ∙ e))
    go false true m o again = absurd (none-some q (sym (ap (λ (x : Bool). cond x (Some q) (holder table a qs)) (held false true m o)) ∙ e))
    go false false m o again =
        ap (λ (x : Bool). cond x (suc (length (map (λ r. table r a) qs))) (cond (is_own (table q a)) 0 (squashed_by (map (λ r. table r a) qs)))) m
        ∙ (ap (λ (x : Bool). cond x 0 (squashed_by (map (λ r. table r a) qs))) o ∙ again (sym (ap (λ (x : Bool). cond x (Some q) (holder table a qs)) (held false false m o)) ∙ e))

-- a task later than p in order is past p
place-past : (ps : List ℕ) (q k j : ℕ) → place_in ps q ≡ Some j → k < j → (i : ℕ) × (place_in (drop (suc k) ps) q ≡ Some i)
place-past ps q k j e h = go (place_in (drop (suc k) ps) q) refl
  where
    front : (o : Option ℕ) → place_in (take (suc k) ps) q ≡ o → o ≡ None
    front None f = refl
    front (Some i) f = let t = take-place (suc k) ps q i f in absurd (omega (arith, t.1, place-once ps q i j t.0 e))

    go : (o : Option ℕ) → place_in (drop (suc k) ps) q ≡ o → (i : ℕ) × (place_in (drop (suc k) ps) q ≡ Some i)
    go None f = absurd (none-some j (sym e ∙ none-join (suc k) ps q (front (place_in (take (suc k) ps) q) refl) f))
    go (Some i) f = (i, f)

-- a later task with a mark that a store of p does not squash does not see the store
store-hidden : (ps : List ℕ) (table : Table) (p k q j a w : ℕ) → Apart ps → place_in ps p ≡ Some k → place_in ps q ≡ Some j → k < j → j < length ps - squashes table ps k a → (table q a).mark ≡ true
    → (f : ℕ → Version) → ((r : ℕ) → (r ≡ p → ⊥) → f r ≡ table r a) → seen_by (map f (take j ps)) w ≡ seen_by (map (λ r. table r a) (take j ps)) w
store-hidden ps table p k q j a w apart at_p at-q later stays mark f agree =
    parts f ∙ (ap (λ (l : List Version). seen_by l (seen_by (map f (take (suc k) ps)) w)) back ∙ (hidden ∙ sym (parts g)))
  where
    g : ℕ → Version
    g r = table r a

    i : ℕ
    i = j - suc k

    split : take j ps ≡ take (suc k) ps ++ take (j - suc k) (drop (suc k) ps)
    split =
        let sum : suc k + (j - suc k) ≡ j = omega arith in
        sym (take-append-drop (suc k) (take j ps))
        ∙ (ap (λ (l : List ℕ). l ++ drop (suc k) (take j ps)) (take-take (suc k) j ps (omega arith))
        ∙ ap (λ (l : List ℕ). take (suc k) ps ++ l) (ap (λ (n : ℕ). drop (suc k) (take n ps)) (sym sum) ∙ drop-take (suc k) (j - suc k) ps))

    parts : (h : ℕ → Version) → seen_by (map h (take j ps)) w ≡ seen_by (map h (take (j - suc k) (drop (suc k) ps))) (seen_by (map h (take (suc k) ps)) w)
    parts h =
        ap (λ (l : List ℕ). seen_by (map h l) w) split
        ∙ (ap (λ (l : List Version). seen_by l w) (map-append h (take (suc k) ps) (take (j - suc k) (drop (suc k) ps)))
        ∙ seen-append (map h (take (suc k) ps)) (map h (take (j - suc k) (drop (suc k) ps))) w)

    back : map f (take (j - suc k) (drop (suc k) ps)) ≡ map (λ r. table r a) (take (j - suc k) (drop (suc k) ps))
    back = same-column f (λ r. table r a) (take (j - suc k) (drop (suc k) ps))
        (λ r n e. agree r (λ s. none-some n (sym (take-place (j - suc k) (drop (suc k) ps) r n e).0 ∙ (ap (place_in (drop (suc k) ps)) s ∙ none-past ps p k apart at_p))))

    take-map : (n : ℕ) (xs : List ℕ) → map (λ r. table r a) (take n xs) ≡ take n (map (λ r. table r a) xs)
    take-map zero xs = refl
    take-map (suc n) [] = refl
    take-map (suc n) (x ∷ xs) = ap (λ (l : List Version). table x a ∷ l) (take-map n xs)

    get_or-maps : (n : ℕ) (xs : List ℕ) → n < length xs → get_or (map (λ r. table r a) xs) n no_version ≡ table (get_or xs n 0) a
    get_or-maps n [] h = absurd (omega arith)
    get_or-maps zero (x ∷ xs) h = refl
    get_or-maps (suc n) (x ∷ xs) h = get_or-maps n xs (omega arith)

    hidden : seen_by (map (λ r. table r a) (take (j - suc k) (drop (suc k) ps))) (seen_by (map f (take (suc k) ps)) w)
        ≡ seen_by (map (λ r. table r a) (take (j - suc k) (drop (suc k) ps))) (seen_by (map (λ r. table r a) (take (suc k) ps)) w)
    hidden =
        let long = length-drop (suc k) ps in
        let inside = (placed ps q j at-q).within in
        let here : get_or (map (λ r. table r a) (drop (suc k) ps)) (j - suc k) no_version ≡ table q a =
        get_or-maps (j - suc k) (drop (suc k) ps) (omega (arith, long, inside))
        ∙ ap (λ (r : ℕ). table r a) (get_or-drop (suc k) ps (j - suc k) 0 ∙ (ap (λ (n : ℕ). get_or ps n 0) (sum (j - suc k) refl) ∙ place-value ps q j at-q)) in
        subst (λ (l : List Version). seen_by l (seen_by (map f (take (suc k) ps)) w) ≡ seen_by l (seen_by (map (λ r. table r a) (take (suc k) ps)) w)) (sym (take-map (j - suc k) (drop (suc k) ps)))
        (hidden-copy (map (λ r. table r a) (drop (suc k) ps)) (j - suc k) no_version
        (omega (arith, long, length-map (drop (suc k) ps) (λ r. table r a), stays, later))
        (ap (λ (v : Version). v.mark) here ∙ mark) (seen_by (map f (take (suc k) ps)) w) (seen_by (map (λ r. table r a) (take (suc k) ps)) w))
      where
        sum : (i : ℕ) → j - suc k ≡ i → suc k + (j - suc k) ≡ j
        sum i e = omega arith

-- a store sets S and keeps L
stored-version : (s : LineState) (old a w : ℕ) (n : Option ℕ) → version_in (with_taken StoreLine (record { state = s; tag = a; word = old; next = n }) a w) ≡ with_store w (version_in (record { state = s; tag = a; word = old; next = n }))
stored-version Invalid old a w n = refl
stored-version Loaded old a w n = refl
stored-version Stored old a w n = refl
stored-version Both old a w n = refl

-- p's line for a is another, and the lines of a are linked anew
module _ (ws ps : List ℕ) (ls : LineTable) (x : Laid ws ps ls) (apart : Apart ps) where
  pub keep-linked : (p k a : ℕ) (at_p : place_in ps p ≡ Some k) (y : Line) (tag_is : y.tag ≡ a) (y-held : is_held (version_in y) ≡ true)
      (free : is_held (version_in (ls p (a % 16))) ≡ true → (ls p (a % 16)).tag ≡ a)
      → (is_own (version_in y) ≡ false → y.word ≡ seen_by (map (λ r. table_by ls r a) (take k ps)) (get_or ws a 0))
      → ((q j : ℕ) → place_in ps q ≡ Some j → k < j → is_held (table_by ls q a) ≡ true → is_own (table_by ls q a) ≡ false
      → seen_by (map (λ r. table_by (with_line ls p (a % 16) y) r a) (take j ps)) (get_or ws a 0) ≡ seen_by (map (λ r. table_by ls r a) (take j ps)) (get_or ws a 0))
      → Laid ws ps (relinked ps a (with_line ls p (a % 16) y))
  keep-linked p k a at_p y tag_is y-held free mine later =
      keep-change ws ps ls x apart p k a at_p y tag_is y-held free (relinked ps a (with_line ls p (a % 16) y))
      (λ q c. relinked-same (λ z. with_next z None) (λ z n. refl) ps a (with_line ls p (a % 16) y) q c)
      (λ q c held far. ap (λ (z : Line). z.next) (off q c held far))
      (λ q c none. empty q c none)
      (λ q j place held. ap (λ (z : Line). z.next) (relinked-held ps a (with_line ls p (a % 16) y) q j apart place held))
      mine later
    where
      unshown : (q c : ℕ) → c ≡ a % 16 → (is_held (version_in (with_line ls p (a % 16) y q c)) ≡ true → (with_line ls p (a % 16) y q c).tag ≡ a → ⊥) → is_held (table_by (with_line ls p (a % 16) y) q a) ≡ false
      unshown q c class no_line = go (is_held (table_by (with_line ls p (a % 16) y) q a)) refl
        where
          go : (t : Bool) → is_held (table_by (with_line ls p (a % 16) y) q a) ≡ t → t ≡ false
          go true h =
              let s = shown (with_line ls p (a % 16) y) q a h in
              absurd (no_line (ap (λ (d : ℕ). is_held (version_in (with_line ls p (a % 16) y q d))) class ∙ s.1) (ap (λ (d : ℕ). (with_line ls p (a % 16) y q d).tag) class ∙ s.0))
          go false h = refl

      off : (q c : ℕ) → is_held (version_in (with_line ls p (a % 16) y q c)) ≡ true → ((with_line ls p (a % 16) y q c).tag ≡ a → ⊥) → relinked ps a (with_line ls p (a % 16) y) q c ≡ with_line ls p (a % 16) y q c
      off q c held far =
          ⊎_elim (λ (class : c ≡ a % 16). relinked-unheld ps a (with_line ls p (a % 16) y) q c (unshown q c class (λ h t. far t)))
          (λ (class : c ≡ a % 16 → ⊥). relinked-class ps a (with_line ls p (a % 16) y) q c (ne_eqb c (a % 16) class)) (cases_eq c (a % 16))

      empty : (q c : ℕ) → is_held (version_in (with_line ls p (a % 16) y q c)) ≡ false → relinked ps a (with_line ls p (a % 16) y) q c ≡ with_line ls p (a % 16) y q c
      empty q c none =
          ⊎_elim (λ (class : c ≡ a % 16). relinked-unheld ps a (with_line ls p (a % 16) y) q c (unshown q c class (λ h t. true≢false (sym h ∙ none))))
          (λ (class : c ≡ a % 16 → ⊥). relinked-class ps a (with_line ls p (a % 16) y) q c (ne_eqb c (a % 16) class)) (cases_eq c (a % 16))

-- from a state whose lines are those of the plain state
module _ {M : Type 0} (words : M → List ℕ) {sound : M → Type 0} (st : SnoopingStore M) (kept : SoundSnooping words sound st) where
  abbrev apart : Apart (processors_of st.caches)
  apart = kept.apart

  abbrev ws : List ℕ
  ws = words st.memory

  abbrev ps : List ℕ
  ps = processors_of st.caches

  abbrev cs : List Cache
  cs = st.caches.list

  abbrev wide : Wide st.caches.list
  wide = st.caches.wide

  abbrev fits : Fitting (length (words st.memory)) (processors_of st.caches) (table_by (line_in st.caches.list))
  fits = kept.fits

  abbrev lines : st.caches.list ≡ lines_of (plain_in words st)
  lines = kept.lines

  abbrev old : BusReport
  old = st.report

  abbrev ls : LineTable
  ls = line_in st.caches.list

  abbrev table : Table
  table = table_by (line_in st.caches.list)

  abbrev state : Plain
  state = plain_in words st

  laid : Laid (words st.memory) (processors_of st.caches) (line_in st.caches.list)
  laid = laid-caches (words st.memory) (processors_of st.caches) st.caches.list st.caches.wide kept.lines apart

  pub turn-start : (p k : ℕ) (later : List ℕ) (new : List Cache) (now : BusReport) → Ok k ≡ start_place ps p → later ≡ ps ++ p ∷ [] → new ≡ cs → now ≡ quiet
      → Turned state (Start p) old (Ok k) ws later new now
  turn-start p k later new now ok order same report =
      let y = ok-start ps p k ok in
      subst (λ (x : List Cache). Turned state (Start p) old (Ok k) ws later x now) (sym same)
      (subst (λ (l : List ℕ). Turned state (Start p) old (Ok k) ws l cs now) (sym order)
      (turned state (Start p) old k ws (ps ++ p ∷ []) cs table now (serve-start ws ps table apart fits p k (ps ++ p ∷ []) table ok refl refl) refl wide (apart-push ps p apart y.1 y.0)
      (keep-start ws ps ls laid p (fits.idle p y.0)) report))

  -- the line of an address that is held has the word that the task sees
  line_word : (p k a : ℕ) → place_in ps p ≡ Some k → is_held (table p a) ≡ true → (ls p (a % 16)).word ≡ seen_by (map (λ q. table q a) (take (suc k) ps)) (get_or ws a 0)
  line_word p k a place held =
      let s = shown ls p a held in
      let w = seen_by (map (λ r. table r a) (take k ps)) (get_or ws a 0) in
      let version : table p a ≡ version_in (ls p (a % 16)) = ap (table p) (sym s.0) ∙ shows ws ps ls laid p (a % 16) s.1 in
      own-word (ls p (a % 16)) w (has_s (ls p (a % 16)).state) refl
      (λ copy. laid.word p k (a % 16) place s.1 (some-if (has_s (ls p (a % 16)).state) (ls p (a % 16)).word ∙ copy) ∙ ap (λ (b : ℕ). seen_by (map (λ r. table r b) (take k ps)) (get_or ws b 0)) s.0)
      ∙ sym (last-seen ws ps table apart p k place a ∙ ap (λ (v : Version). laid_over v w) version)

  -- p's line for a, where a's class is free for a
  own_line : (p a : ℕ) → ((b : ℕ) → is_held (table p b) ≡ true → b % 16 ≡ a % 16 → b ≡ a) → is_held (version_in (ls p (a % 16))) ≡ true → (ls p (a % 16)).tag ≡ a
  own_line p a free held = free (ls p (a % 16)).tag (ap is_held (shows ws ps ls laid p (a % 16) held) ∙ held) (laid.class p (a % 16) held)

  pub turn-load-hit : (p a k w : ℕ) (now : BusReport) → Ok k ≡ access_place (length ws) ps table p a → is_held (table p a) ≡ true → w ≡ (ls p (a % 16)).word → now ≡ quiet
      → Turned state (Load p a) old (Ok w) ws ps cs now
  turn-load-hit p a k w now ok held w-is report =
      let y = ok-access (length ws) ps table p a k ok in
      let seen : w ≡ seen_by (map (λ q. table q a) (take (k + 1) ps)) (get_or ws a 0) =
      w-is ∙ (line_word p k a y.0 held ∙ ap (λ (j : ℕ). seen_by (map (λ q. table q a) (take j ps)) (get_or ws a 0)) (sym (add-one k))) in
      turned state (Load p a) old w ws ps cs table now (serve-load ws ps table apart fits p a k w ws ps table ok seen refl refl (with-same table p a (with_load (table p a)) (load-held (table p a) held))) refl wide apart laid
      (report ∙ sym (report-load ws ps table p k apart y.0 a ∙ cond-true (is_held (table p a)) quiet (bus_read a (supplied_by (last_that (λ q. is_own (table q a)) (take k ps)))) held))

  -- whom the search finds is a processor with a line that has the word
  supplied-is : (k a : ℕ) (o : Option ℕ) → o ≡ last_that (λ r. is_own (table r a)) (take k ps) → supplied_word ls (a % 16) (get_or ws a 0) o ≡ seen_by (map (λ r. table r a) (take k ps)) (get_or ws a 0)
  supplied-is k a o e = go o (sym e) ∙ sym (seen_last (λ r. table r a) (take k ps) (get_or ws a 0) ∙ ap (last_seen (λ r. table r a) (get_or ws a 0)) (sym e))
    where
      go : (o : Option ℕ) → last_that (λ r. is_own (table r a)) (take k ps) ≡ o → supplied_word ls (a % 16) (get_or ws a 0) o ≡ last_seen (λ r. table r a) (get_or ws a 0) o
      go None f = refl
      go (Some q) f =
          let own = (last-passes (λ r. is_own (table r a)) (take k ps) q f).0 in
          let s = shown ls q a (own_held (table q a) own) in
          let version : table q a ≡ version_in (ls q (a % 16)) = ap (table q) (sym s.0) ∙ shows ws ps ls laid q (a % 16) s.1 in
          word (has_s (ls q (a % 16)).state) refl (ap is_own (sym version) ∙ own) ∙ ap (λ (v : Version). unwrap_or v.own (get_or ws a 0)) (sym version)
        where
          word : (t : Bool) → has_s (ls q (a % 16)).state ≡ t → is_own (version_in (ls q (a % 16))) ≡ true → (ls q (a % 16)).word ≡ unwrap_or (cond (has_s (ls q (a % 16)).state) (Some (ls q (a % 16)).word) None) (get_or ws a 0)
          word true x y = sym (ap (λ (t : Bool). unwrap_or (cond t (Some (ls q (a % 16)).word) None) (get_or ws a 0)) x)
          word false x y = absurd (true≢false (sym y ∙ ap (λ (t : Bool). is_some (cond t (Some (ls q (a % 16)).word) None)) x))

  pub turn-load-miss : (p a k w : ℕ) (nearest : Option ℕ) (ws' later : List ℕ) (new : List Cache) (now : BusReport) → Ok k ≡ access_place (length ws) ps table p a → is_held (table p a) ≡ false
      → nearest ≡ last_that (λ r. is_own (table r a)) (take k ps) → w ≡ supplied_word ls (a % 16) (get_or ws a 0) nearest → ws' ≡ ws → later ≡ ps
      → line_in new ≡ relinked ps a (with_line ls p (a % 16) (with_taken LoadLine (ls p (a % 16)) a w)) → Wide new → now ≡ bus_read a (supplied_by nearest)
      → Turned state (Load p a) old (Ok w) ws' later new now
  turn-load-miss p a k w nearest ws' later new now ok none near w-is words order New-is new-wide report =
      let y = ok-access (length ws) ps table p a k ok in
      let free = class-free (length ws) ps table p a fits y.3 in
      let seen : w ≡ seen_by (map (λ r. table r a) (take k ps)) (get_or ws a 0) = w-is ∙ supplied-is k a nearest near in
      let bare : ls p (a % 16) ≡ blank = unheld-line (is_held (version_in (ls p (a % 16)))) refl (own_line p a free) in
      let line : Line = with_taken LoadLine blank a w in
      let no-version : table p a ≡ no_version = unheld-none (table p a) none in
      let loaded : with_load (table p a) ≡ version_in line = ap with_load no-version in
      let one : mid ws ps ls laid apart p k a y.0 line refl refl (own_line p a free) ≡ with_line ls p (a % 16) (with_taken LoadLine (ls p (a % 16)) a w) = ap (λ (x : Line). with_line ls p (a % 16) (with_taken LoadLine x a w)) (sym bare) in
      let new-mid : line_in new ≡ relinked ps a (with_line ls p (a % 16) line) = New-is ∙ ap (relinked ps a) (sym one) in
      let mid-is : table_by (with_line ls p (a % 16) line) ≡ with_version table p a (version_in line) = mid-table ws ps ls laid apart p k a y.0 line refl refl (own_line p a free) in
      let table_is : table_by (line_in new) ≡ with_version table p a (with_load (table p a)) =
      ap table_by new-mid ∙ (relinked-table ps a (with_line ls p (a % 16) line) ∙ (mid-is ∙ ap (with_version table p a) (sym loaded))) in
      let all_seen : w ≡ seen_by (map (λ q. table q a) (take (k + 1) ps)) (get_or ws a 0) =
      seen ∙ sym (ap (λ (j : ℕ). seen_by (map (λ q. table q a) (take j ps)) (get_or ws a 0)) (add-one k)
      ∙ (last-seen ws ps table apart p k y.0 a ∙ ap (λ (v : Version). laid_over v (seen_by (map (λ r. table r a) (take k ps)) (get_or ws a 0))) no-version)) in
      subst (λ (v : List ℕ). Turned state (Load p a) old (Ok w) v later new now) (sym words)
      (subst (λ (l : List ℕ). Turned state (Load p a) old (Ok w) ws l new now) (sym order)
      (turned state (Load p a) old w ws ps new (with_version table p a (with_load (table p a))) now
      (serve-load ws ps table apart fits p a k w ws ps (with_version table p a (with_load (table p a))) ok all_seen refl refl refl) table_is new-wide apart
      (subst (Laid ws ps) (sym new-mid)
      (keep-linked ws ps ls laid apart p k a y.0 line refl refl (own_line p a free) (λ e. seen)
      (λ q j place after held copy.
      seen-owns (λ r. table_by (with_line ls p (a % 16) line) r a) (λ r. table r a) (take j ps) (get_or ws a 0)
      (λ r i e. ap (λ (t : Table). (t r a).own) mid-is ∙ same-own r (eqb r p) refl no-version))))
      (report ∙ sym (report-load ws ps table p k apart y.0 a
      ∙ (cond-false (is_held (table p a)) quiet (bus_read a (supplied_by (last_that (λ q. is_own (table q a)) (take k ps)))) none ∙ ap (λ (o : Option ℕ). bus_read a (supplied_by o)) (sym near))))))
    where
      unheld-line : (t : Bool) → is_held (version_in (ls p (a % 16))) ≡ t → (is_held (version_in (ls p (a % 16))) ≡ true → (ls p (a % 16)).tag ≡ a) → ls p (a % 16) ≡ blank
      unheld-line true e tag_is =
          absurd (true≢false (sym e ∙ (ap is_held (sym (shows ws ps ls laid p (a % 16) e)) ∙ (ap (λ (b : ℕ). is_held (table p b)) (tag_is e) ∙ none))))
      unheld-line false e tag_is = laid.bare p (a % 16) e

      same-own : (r : ℕ) (t : Bool) → eqb r p ≡ t → table p a ≡ no_version → (cond (t && eqb a a) (version_in (with_taken LoadLine blank a w)) (table r a)).own ≡ (table r a).own
      same-own r true e n = ap (λ (u : Bool). (cond u (version_in (with_taken LoadLine blank a w)) (table r a)).own) (eq-eqb a a refl) ∙ sym (ap (λ (q : ℕ). (table q a).own) (eqb-true r p e) ∙ ap (λ (v : Version). v.own) n)
      same-own r false e n = refl

  pub turn-squash : (p k n : ℕ) (later : List ℕ) (new : List Cache) (now : BusReport) → Ok k ≡ squash_place ps p → n ≡ length ps - k → later ≡ take k ps → line_in new ≡ cut_to (take k ps) ls → Wide new → now ≡ quiet
      → Turned state (Squash p) old (Ok n) ws later new now
  turn-squash p k n later new now ok n-is order New-is new-wide report =
      subst (λ (l : List ℕ). Turned state (Squash p) old (Ok n) ws l new now) (sym order)
      (turned state (Squash p) old n ws (take k ps) new (without_all table (drop k ps)) now (serve-squash ws ps table apart fits p k n (take k ps) (without_all table (drop k ps)) ok n-is refl refl)
      (ap table_by New-is ∙ cut-table ws ps ls laid apart (length ws) fits k) new-wide (apart-take k ps apart)
      (subst (Laid ws (take k ps)) (sym New-is) (keep-cut ws ps ls laid apart (length ws) fits k)) report)

  -- the head's place cuts the order
  head_first : (p : ℕ) → place_in ps p ≡ Some 0 → p ∷ drop 1 ps ≡ ps
  head_first p first = sym (placed ps p 0 first).parts

  pub turn-commit : (p k n : ℕ) (last : Option ℕ) (ws' later : List ℕ) (new : List Cache) (now : BusReport) → Ok k ≡ commit_place ps p → n ≡ count_below (λ a. is_own (table p a)) (length ws)
      → last ≡ last_own (table p) (length ws) 16 → ws' ≡ laid_over_all (table p) ws → later ≡ drop 1 ps → line_in new ≡ with_cache ls p (ended CommitLine) → Wide new → now ≡ written_last last n
      → Turned state (Commit p) old (Ok n) ws' later new now
  turn-commit p k n last ws' later new now ok n-is last-is words order New-is new-wide report =
      let y = ok-commit ps p k ok in
      let first : place_in ps p ≡ Some 0 = y.0 ∙ ap Some y.2 in
      let whole = sym (head_first p first) in
      let laid-head : Laid ws (p ∷ drop 1 ps) ls = subst (λ (l : List ℕ). Laid ws l ls) whole laid in
      let apart-head : Apart (p ∷ drop 1 ps) = subst Apart whole apart in
      let fits_head : Fitting (length ws) (p ∷ drop 1 ps) table = subst (λ (l : List ℕ). Fitting (length ws) l table) whole fits in
      subst (λ (v : List ℕ). Turned state (Commit p) old (Ok n) v later new now) (sym words)
      (subst (λ (l : List ℕ). Turned state (Commit p) old (Ok n) (laid_over_all (table p) ws) l new now) (sym order)
      (turned state (Commit p) old n (laid_over_all (table p) ws) (drop 1 ps) new (without table p) now
      (serve-commit ws ps table apart fits p k n (laid_over_all (table p) ws) (drop 1 ps) (without table p) ok n-is refl refl refl)
      (ap table_by New-is ∙ commit-table ws p (drop 1 ps) ls laid-head apart-head fits_head) new-wide (apart-drop ps apart)
      (subst (Laid (laid_over_all (table p) ws) (drop 1 ps)) (sym New-is) (keep-commit ws p (drop 1 ps) ls laid-head apart-head fits_head))
      (report ∙ sym (report-commit ws ps table p k apart y.0 ∙ (ap (λ (o : Option ℕ). written_last o (count_below (λ a. is_own (table p a)) (length ws))) (sym last-is) ∙ ap (written_last last) (sym n-is))))))

  pub turn-replace : (p a k n : ℕ) (ws' later : List ℕ) (new : List Cache) (now : BusReport) → Ok k ≡ replace_place (length ws) ps table p a → n ≡ cond (is_own (table p a)) 1 0
      → ws' ≡ written_to (table p a).own a ws → later ≡ ps → line_in new ≡ with_line ls p (a % 16) blank → Wide new → now ≡ cond (is_own (table p a)) (written_back a 1) quiet
      → Turned state (Replace p a) old (Ok n) ws' later new now
  turn-replace p a k n ws' later new now ok n-is words order New-is new-wide report =
      let y = ok-replace (length ws) ps table p a k ok in
      let first : place_in ps p ≡ Some 0 = y.0 ∙ ap Some y.3 in
      let whole = sym (head_first p first) in
      let laid-head : Laid ws (p ∷ drop 1 ps) ls = subst (λ (l : List ℕ). Laid ws l ls) whole laid in
      let apart-head : Apart (p ∷ drop 1 ps) = subst Apart whole apart in
      let fits_head : Fitting (length ws) (p ∷ drop 1 ps) table = subst (λ (l : List ℕ). Fitting (length ws) l table) whole fits in
      let ws₂ = written_to (table p a).own a ws in
      subst (λ (v : List ℕ). Turned state (Replace p a) old (Ok n) v later new now) (sym words)
      (subst (λ (l : List ℕ). Turned state (Replace p a) old (Ok n) ws₂ l new now) (sym order)
      (turned state (Replace p a) old n ws₂ ps new (with_version table p a no_version) now
      (serve-replace ws ps table apart fits p a k n ws₂ ps (with_version table p a no_version) ok n-is refl refl refl)
      (ap table_by New-is ∙ replace-table ws p (drop 1 ps) ls laid-head apart-head fits_head a y.4) new-wide apart
      (subst (Laid ws₂ ps) (sym New-is) (subst (λ (l : List ℕ). Laid ws₂ l (with_line ls p (a % 16) blank)) (head_first p first) (keep-replace ws p (drop 1 ps) ls laid-head apart-head fits_head a y.4)))
      (report ∙ sym (report-replace ws ps table p k apart y.0 a))))

  pub sound-linked : (a : ℕ) → Linked ps a ls
  sound-linked a = laid-linked ws ps ls laid a

  pub sound-pointing : Pointing ls
  sound-pointing = laid-pointing (length ws) ws ps ls laid fits

  -- whether a store hits, by the line and by the order
  hit-test : (p k a : ℕ) → place_in ps p ≡ Some k → (is_own (table p a) && not (is_some (ls p (a % 16)).next)) ≡ (is_own (table p a) && not (is_some (holder table a (drop (suc k) ps))))
  hit-test p k a place = go (is_own (table p a)) refl
    where
      go : (t : Bool) → is_own (table p a) ≡ t → (t && not (is_some (ls p (a % 16)).next)) ≡ (t && not (is_some (holder table a (drop (suc k) ps))))
      go true e = ap (λ (o : Option ℕ). not (is_some o)) (sound-linked a p k place (own_held (table p a) e))
      go false e = refl

  pub turn-store-hit : (p a w k : ℕ) (later : List ℕ) (new : List Cache) (now : BusReport) → Ok k ≡ access_place (length ws) ps table p a → is_own (table p a) ≡ true → (ls p (a % 16)).next ≡ None
      → later ≡ ps → line_in new ≡ with_line ls p (a % 16) (with_taken StoreLine (ls p (a % 16)) a w) → Wide new → now ≡ quiet → Turned state (Store p a w) old (Ok 0) ws later new now
  turn-store-hit p a w k later new now ok own last order New-is new-wide report =
      let y = ok-access (length ws) ps table p a k ok in
      let held = own_held (table p a) own in
      let s = shown ls p a held in
      let x = ls p (a % 16) in
      let line = with_taken StoreLine x a w in
      let free = own_line p a (class-free (length ws) ps table p a fits y.3) in
      let version : table p a ≡ version_in x = ap (table p) (sym s.0) ∙ shows ws ps ls laid p (a % 16) s.1 in
      let stored : version_in line ≡ with_store w (table p a) = stored-version x.state x.word a w x.next ∙ ap (with_store w) (sym version) in
      let line-held : is_held (version_in line) ≡ true = ap is_held stored ∙ own_held (with_store w (table p a)) refl in
      let m = with_line ls p (a % 16) line in
      let mid-is : table_by m ≡ with_version table p a (version_in line) = mid-table ws ps ls laid apart p k a y.0 line refl line-held free in
      let nobody : holder table a (drop (suc k) ps) ≡ None = sym (sound-linked a p k y.0 held) ∙ last in
      let all : length ps - 0 ≡ length ps = omega arith in
      subst (λ (l : List ℕ). Turned state (Store p a w) old (Ok 0) ws l new now) (sym order)
      (turned state (Store p a w) old 0 ws ps new (with_version table p a (with_store w (table p a))) now
      (serve-store ws ps table apart fits p a w k 0 ps table (with_version table p a (with_store w (table p a))) ok (sym (squash-none table a (drop (suc k) ps) nobody))
      (sym (take_all (length ps - 0) ps (omega arith))) (ap (without_all table) (sym (drop_all (length ps - 0) ps (omega arith)))) refl)
      (ap table_by New-is ∙ (mid-is ∙ ap (with_version table p a) stored)) new-wide apart
      (subst (Laid ws ps) (sym New-is)
      (keep-change ws ps ls laid apart p k a y.0 line refl line-held free m
      (λ q c. refl) (λ q c h f. refl) (λ q c n. refl)
      (λ q j place on. same_next q line refl ∙ (sound-linked a q j place (was-held q line mid-is line-held held on) ∙ sym (holder-same (table_by m) table a (drop (suc j) ps) (λ r i e. both-held r line mid-is line-held held))))
      (λ copy. absurd (true≢false (ap is_own (sym stored) ∙ copy)))
      (λ q j place after on copy. let i = place-past ps q k j place after in absurd (true≢false (sym on ∙ holder-none table a (drop (suc k) ps) nobody q i.0 i.1)))))
      (report ∙ sym (report-store ws ps table p k apart y.0 a w
      ∙ cond-true (is_own (table p a) && not (is_some (holder table a (drop (suc k) ps)))) quiet (bus_write a (powers (reached (λ q. table q a) (drop (suc k) ps))))
      (and_from (is_own (table p a)) (not (is_some (holder table a (drop (suc k) ps)))) own (ap (λ (o : Option ℕ). not (is_some o)) nobody)))))
    where
      both-held : (r : ℕ) (line : Line) → table_by (with_line ls p (a % 16) line) ≡ with_version table p a (version_in line) → is_held (version_in line) ≡ true → is_held (table p a) ≡ true
          → is_held (table_by (with_line ls p (a % 16) line) r a) ≡ is_held (table r a)
      both-held r line mid-is line-held held = ap (λ (t : Table). is_held (t r a)) mid-is ∙ go (eqb r p) refl
        where
          go : (t : Bool) → eqb r p ≡ t → is_held (cond (t && eqb a a) (version_in line) (table r a)) ≡ is_held (table r a)
          go true e = ap (λ (u : Bool). is_held (cond u (version_in line) (table r a))) (eq-eqb a a refl) ∙ (line-held ∙ sym (ap (λ (q : ℕ). is_held (table q a)) (eqb-true r p e) ∙ held))
          go false e = refl

      was-held : (r : ℕ) (line : Line) → table_by (with_line ls p (a % 16) line) ≡ with_version table p a (version_in line) → is_held (version_in line) ≡ true → is_held (table p a) ≡ true
          → is_held (table_by (with_line ls p (a % 16) line) r a) ≡ true → is_held (table r a) ≡ true
      was-held r line mid-is line-held held on = sym (both-held r line mid-is line-held held) ∙ on

      same_next : (q : ℕ) (line : Line) → line.next ≡ (ls p (a % 16)).next → (with_line ls p (a % 16) line q (a % 16)).next ≡ (ls q (a % 16)).next
      same_next q line e = go (eqb q p) (eqb (a % 16) (a % 16)) refl
        where
          go : (t u : Bool) → eqb q p ≡ t → (cond (t && u) line (ls q (a % 16))).next ≡ (ls q (a % 16)).next
          go true true s = e ∙ ap (λ (r : ℕ). (ls r (a % 16)).next) (sym (eqb-true q p s))
          go true false s = refl
          go false u s = refl

  -- after the squash of a store
  pub store-cut : (m : ℕ) (new : List Cache) → line_in new ≡ cut_to (take m ps) ls → Laid ws (take m ps) (line_in new) × (table_by (line_in new) ≡ without_all table (drop m ps))
  store-cut m new is = (subst (Laid ws (take m ps)) (sym is) (keep-cut ws ps ls laid apart (length ws) fits m), ap table_by is ∙ cut-table ws ps ls laid apart (length ws) fits m)

  pub store-uncut : (m : ℕ) → length ps ≤ m → Laid ws (take m ps) ls × (table ≡ without_all table (drop m ps))
  store-uncut m all = (subst (λ (l : List ℕ). Laid ws l ls) (sym (take_all m ps all)) laid, ap (without_all table) (sym (drop_all m ps all)))

  pub turn-store-miss : (p a w k n mask : ℕ) (ls₁ : LineTable) (later : List ℕ) (new : List Cache) (now : BusReport) → Ok k ≡ access_place (length ws) ps table p a
      → (is_own (table p a) && not (is_some (ls p (a % 16)).next)) ≡ false → n ≡ squashes table ps k a → mask ≡ powers (reached (λ q. table q a) (drop (suc k) ps))
      → Laid ws (take (length ps - n) ps) ls₁ → table_by ls₁ ≡ without_all table (drop (length ps - n) ps) → later ≡ take (length ps - n) ps
      → line_in new ≡ relinked (take (length ps - n) ps) a (with_line ls₁ p (a % 16) (with_taken StoreLine (ls₁ p (a % 16)) a w)) → Wide new → now ≡ bus_write a mask
      → Turned state (Store p a w) old (Ok n) ws later new now
  turn-store-miss p a w k n mask ls₁ later new now ok test n-is mask_is laid₁ cut order New-is new-wide report =
      let y = ok-access (length ws) ps table p a k ok in
      let m = length ps - n in
      let less : k < m = subst (λ (j : ℕ). k < length ps - j) (sym n-is) (squashes-le table ps p k a y.0) in
      let place₁ : place_in (take m ps) p ≡ Some k = place-take m ps p k y.0 less in
      let mine : (b : ℕ) → table_by ls₁ p b ≡ table p b = λ b. ap (λ (t : Table). t p b) cut ∙ front_same m p k b place₁ in
      let free : is_held (version_in (ls₁ p (a % 16))) ≡ true → (ls₁ p (a % 16)).tag ≡ a =
      λ held. let b = (ls₁ p (a % 16)).tag in
      class-free (length ws) ps table p a fits y.3 b (ap is_held (sym (mine b)) ∙ (ap is_held (shows ws (take m ps) ls₁ laid₁ p (a % 16) held) ∙ held)) (laid₁.class p (a % 16) held) in
      let x = ls₁ p (a % 16) in
      let line = with_taken StoreLine x a w in
      let stored : version_in line ≡ with_store w (table_by ls₁ p a) = stored-version x.state x.word a w x.next ∙ ap (with_store w) (sym (own-version (take m ps) ls₁ laid₁ p a free)) in
      let line-held : is_held (version_in line) ≡ true = ap is_held stored ∙ own_held (with_store w (table_by ls₁ p a)) refl in
      let mid-is : table_by (with_line ls₁ p (a % 16) line) ≡ with_version (table_by ls₁) p a (version_in line) =
      mid-table ws (take m ps) ls₁ laid₁ (apart-take m ps apart) p k a place₁ line refl line-held free in
      let new-table-is : table_by (line_in new) ≡ with_version (table_by ls₁) p a (with_store w (table_by ls₁ p a)) =
      ap table_by New-is ∙ (relinked-table (take m ps) a (with_line ls₁ p (a % 16) line) ∙ (mid-is ∙ ap (with_version (table_by ls₁) p a) stored)) in
      subst (λ (l : List ℕ). Turned state (Store p a w) old (Ok n) ws l new now) (sym order)
      (turned state (Store p a w) old n ws (take m ps) new (with_version (table_by ls₁) p a (with_store w (table_by ls₁ p a))) now
      (serve-store ws ps table apart fits p a w k n (take m ps) (table_by ls₁) (with_version (table_by ls₁) p a (with_store w (table_by ls₁ p a))) ok n-is refl cut refl)
      new-table-is new-wide (apart-take m ps apart)
      (subst (Laid ws (take m ps)) (sym New-is)
      (keep-linked ws (take m ps) ls₁ laid₁ (apart-take m ps apart) p k a place₁ line refl line-held free
      (λ copy. absurd (true≢false (ap is_own (sym stored) ∙ copy)))
      (λ q j place after held copy. unseen m cut line mid-is q j y.0 place after (subst (λ (i : ℕ). m ≡ length ps - i) n-is refl) held copy)))
      (report ∙ (ap (bus_write a) mask_is
      ∙ sym (report-store ws ps table p k apart y.0 a w
      ∙ cond-false (is_own (table p a) && not (is_some (holder table a (drop (suc k) ps)))) quiet (bus_write a (powers (reached (λ q. table q a) (drop (suc k) ps)))) (sym (hit-test p k a y.0) ∙ test)))))
    where
      front_same : (m r i b : ℕ) → place_in (take m ps) r ≡ Some i → without_all table (drop m ps) r b ≡ table r b
      front_same m r i b e = without_all-value table (drop m ps) r b ∙ ap (λ (o : Option ℕ). cond (is_some o) no_version (table r b)) (front_out m ps r i apart e)

      own-version : (qs : List ℕ) (l : LineTable) → Laid ws qs l → (p a : ℕ) → (is_held (version_in (l p (a % 16))) ≡ true → (l p (a % 16)).tag ≡ a) → table_by l p a ≡ version_in (l p (a % 16))
      own-version qs l lx p a free = go (is_held (version_in (l p (a % 16)))) refl
        where
          go : (t : Bool) → is_held (version_in (l p (a % 16))) ≡ t → table_by l p a ≡ version_in (l p (a % 16))
          go true e = ap (table_by l p) (sym (free e)) ∙ shows ws qs l lx p (a % 16) e
          go false e = ap (λ (z : Line). version_at z a) (lx.bare p (a % 16) e) ∙ (ap (λ (t : Table). t p a) blank-table ∙ sym (ap version_in (lx.bare p (a % 16) e)))

      unseen : (m : ℕ) → table_by ls₁ ≡ without_all table (drop m ps) → (line : Line) → table_by (with_line ls₁ p (a % 16) line) ≡ with_version (table_by ls₁) p a (version_in line) → (q j : ℕ)
          → place_in ps p ≡ Some k → place_in (take m ps) q ≡ Some j → k < j → m ≡ length ps - squashes table ps k a → is_held (table_by ls₁ q a) ≡ true → is_own (table_by ls₁ q a) ≡ false
          → seen_by (map (λ r. table_by (with_line ls₁ p (a % 16) line) r a) (take j (take m ps))) (get_or ws a 0) ≡ seen_by (map (λ r. table_by ls₁ r a) (take j (take m ps))) (get_or ws a 0)
      unseen m cut line mid-is q j at_p place after m-is held copy =
          let v = version_in line in
          let t = take-place m ps q j place in
          let same : table_by ls₁ q a ≡ table q a = ap (λ (u : Table). u q a) cut ∙ front_same m q j a place in
          let front : (r i : ℕ) → place_in (take j (take m ps)) r ≡ Some i → table_by ls₁ r a ≡ table r a =
          λ r i e. ap (λ (u : Table). u r a) cut ∙ front_same m r i a (take-place j (take m ps) r i e).0 in
          let short : take j (take m ps) ≡ take j ps = take-take j m ps (omega (arith, t.1)) in
          ap (λ (l : List Version). seen_by l (get_or ws a 0))
          (same-column (λ r. table_by (with_line ls₁ p (a % 16) line) r a) (λ r. with_version table p a v r a) (take j (take m ps))
          (λ r i e. ap (λ (u : Table). u r a) mid-is ∙ ap (λ (z : Version). cond (eqb r p && eqb a a) v z) (front r i e)))
          ∙ (ap (λ (l : List ℕ). seen_by (map (λ r. with_version table p a v r a) l) (get_or ws a 0)) short
          ∙ (store-hidden ps table p k q j a (get_or ws a 0) apart at_p t.0 after (subst (λ (i : ℕ). j < i) m-is t.1) (held-mark (table q a) (ap is_held (sym same) ∙ held) (ap is_own (sym same) ∙ copy))
          (λ r. with_version table p a v r a) (λ r ne. cond-false (eqb r p && eqb a a) v (table r a) (and_left (eqb r p) (eqb a a) (ne_eqb r p ne)))
          ∙ (ap (λ (l : List ℕ). seen_by (map (λ r. table r a) l) (get_or ws a 0)) (sym short)
          ∙ ap (λ (l : List Version). seen_by l (get_or ws a 0)) (same-column (λ r. table r a) (λ r. table_by ls₁ r a) (take j (take m ps)) (λ r i e. sym (front r i e))))))

  pub after-cut : (n : ℕ) (new : List Cache) → (n ≡ 0 → line_in new ≡ ls) → (0 < n → line_in new ≡ cut_to (take (length ps - n) ps) ls)
      → Laid ws (take (length ps - n) ps) (line_in new) × (table_by (line_in new) ≡ without_all table (drop (length ps - n) ps))
  after-cut n new none some =
      ⊎_elim (λ (h : 0 < n). store-cut (length ps - n) new (some h))
      (λ (h : n ≤ 0).
      let is = none (omega arith) in
      let x = store-uncut (length ps - n) (omega arith) in
      (subst (Laid ws (take (length ps - n) ps)) (sym is) x.0, ap table_by is ∙ x.1)) (cases_lt 0 n)

-- the store after a turn: for the processor that the chain of conditions found, or refused
pub took : {M : Type 0} (words : M → List ℕ) (sound : M → Type 0) (spare : M → List ℕ) (s : SnoopingStore M) (turn : ℕ → Turn) (p q n : ℕ) (later : SnoopingStore M) → q ≡ p
    → Turned (plain_in words s) (turn q) s.report (Ok n) (words later.memory) (processors_of later.caches) later.caches.list later.report → sound later.memory → spare later.memory ≡ spare s.memory
    → Took (plain_in words) (Shown words) (λ x. spare x.memory) (SoundSnooping words sound) s (turn p) (Ok n) later
took words sound spare s turn p q n later same x memory beside =
    subst (λ (y : ℕ). Took (plain_in words) (Shown words) (λ z. spare z.memory) (SoundSnooping words sound) s (turn y) (Ok n) later) same
    (record {
      answer = x.answer;
      after = x.after;
      refused = λ no. absurd (true≢false no);
      shows = record { lines = x.lines ∙ ap lines_of x.after; report = x.report };
      beside = beside;
      kept = record { memory = memory; apart = x.apart; fits = x.fits; lines = x.lines };
    })

pub took-refused : {M : Type 0} (words : M → List ℕ) (sound : M → Type 0) (spare : M → List ℕ) (s : SnoopingStore M) (t : Turn) (r : Result ℕ Refusal) (e : Refusal) (p : ℕ) (place : Result ℕ Refusal)
    → SoundSnooping words sound s → Agrees place (refusal_of (plain_in words s) t) → Err e ≡ with_processor p place → r ≡ Err e
    → Took (plain_in words) (Shown words) (λ x. spare x.memory) (SoundSnooping words sound) s t r s
took-refused words sound spare s t r e p place x agrees is same =
    let law = refused-by (plain_in words s) t r e p place agrees is same in
    record {
      answer = law.0;
      after = law.1;
      refused = λ _. refl;
      shows = record { lines = x.lines ∙ ap lines_of law.1; report = unreported s.report (plain_in words s) t e (sym same ∙ law.0) };
      beside = refl;
      kept = x;
    }

pub hit-parts : (t : Bool) (o : Option ℕ) → (t && not (is_some o)) ≡ true → (t ≡ true) × (o ≡ None)
hit-parts true None e = (refl, refl)
hit-parts true (Some q) e = absurd (true≢false (sym e))
hit-parts false o e = absurd (true≢false (sym e))
