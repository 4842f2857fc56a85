-- A turn that a store with a table of versions serves: from its chain of conditions and its changes of words, order and
-- table to the plain store's answer and state.
use Rattle.std.proofs.Common.{◌≡◌, ℕ, suc, ◌+◌, ◌-◌, ◌%◌, ◌<◌, true, false, cond, not, ◌&&◌, eqb, ltb, List, [], ◌∷◌, ◌++◌, map, length, get_or, take, drop, is_some, Some, None, Ok, Err, Option, Result, sym, ap, ◌∙◌, subst, ⊎_elim, add-one}
use Rattle.memory.specs.Client.{count_below}
use Rattle.memory.specs.Words.{read_answer}
use Rattle.memory.specs.declared.error.MemoryError.{MemoryError}
use Rattle.memory.specs.declared.error.MemoryError.TheVariants.{Address}
use Rattle.std.proofs.lemmas.Bool.{eq-eqb, ne_eqb, cases_eq, cond-true, lt-ltb, true≢false}
use Rattle.versions.specs.declared.refusal.Refusal.{Refusal}
use Rattle.versions.specs.declared.turn.Turn.{Turn}
use Rattle.versions.specs.declared.turn.Turn.TheVariants.{Start, Load, Store, Squash, Commit, Replace}
use Rattle.versions.specs.declared.version.Version.{Version}
use Rattle.versions.specs.Orders.{place_in, Apart}
use Rattle.versions.specs.Plain.{Plain, holds_class, laid_over_all, written_to, refusal_of, given, moved, answer_of, state_after}
use Rattle.versions.specs.Tables.{Table, task_by, plain_of, with_version, without, without_all, Fitting, with_processor, start_place, access_place, squash_place, commit_place, replace_place}
use Rattle.versions.specs.Versions.{no_version, is_own, is_held, with_load, with_store, seen_by, squashed_by}
use Rattle.versions.proofs.Classes.{any_below-never}
use Rattle.versions.proofs.Fits.{fitting-start, fitting-put, fitting-cut, fitting-retire, plain-cut, plain-retire, without_all-value, held-without, parts_none, front_out}
use Rattle.versions.proofs.Holding.{length-laid_over_all, length-written_to}
use Rattle.versions.proofs.Judging.{Agrees, refused-turn, accepted-turn, start-agrees, load-agrees, squash-agrees, commit-agrees, replace-agrees, no-place, ok-start, ok-access, ok-squash, ok-commit, ok-replace}
use Rattle.versions.proofs.Ordering.{apart-push, apart-take, apart-drop}
use Rattle.versions.proofs.Tabling.{place-take, tasks-same, squashes, squashes-le, given-load, moved-load, given-store, moved_store, given-squash, moved-squash, given-commit, moved-commit, given-replace, moved-replace, given-start, moved-start}

-- a turn that a chain of conditions refused
pub refused-by : (s : Plain) (t : Turn) (r : Result ℕ Refusal) (e : Refusal) (p : ℕ) (place : Result ℕ Refusal) → Agrees place (refusal_of s t) → Err e ≡ with_processor p place → r ≡ Err e
    → (r ≡ answer_of s t) × (s ≡ state_after s t)
refused-by s t r e p place agrees is r-is =
    let no-turn = refused-turn s t e (subst (λ (x : Result ℕ Refusal). Agrees x (refusal_of s t)) (sym (no-place p e place is)) agrees) in
    (r-is ∙ no-turn.0, no-turn.1)

pub accepted-by : (s : Plain) (t : Turn) (k : ℕ) (place : Result ℕ Refusal) → Agrees place (refusal_of s t) → Ok k ≡ place → refusal_of s t ≡ None
accepted-by s t k place agrees is = subst (λ (x : Result ℕ Refusal). Agrees x (refusal_of s t)) (sym is) agrees

-- what a store shows after it served a turn: its answer, the words, order and table it has then, and that they fit
pub record Served (s : Plain) (t : Turn) (r : Result ℕ Refusal) (ws ps : List ℕ) (table : Table) : Type 0 where
  pub answer : r ≡ answer_of s t
  pub after : plain_of ws ps table ≡ state_after s t
  pub apart : Apart ps
  pub fits : Fitting (length ws) ps table

served : (s : Plain) (t : Turn) (n : ℕ) (ws ps : List ℕ) (table : Table) → refusal_of s t ≡ None → n ≡ given s t → plain_of ws ps table ≡ moved s t → Apart ps → Fitting (length ws) ps table
    → Served s t (Ok n) ws ps table
served s t n ws ps table accepted n-is state apart fits =
    let a = accepted-turn s t accepted in
    record { answer = ap Ok n-is ∙ a.0; after = state ∙ a.1; apart = apart; fits = fits }

-- the class of a is free for a: what the task holds of it is a itself
pub class-free : (n : ℕ) (ps : List ℕ) (table : Table) (p a : ℕ) → Fitting n ps table → holds_class (task_by table p) a n ≡ false
    → (b : ℕ) → is_held (table p b) ≡ true → b % 16 ≡ a % 16 → b ≡ a
class-free n ps table p a x free b held class =
    ⊎_elim
    (λ (e : b ≡ a). e)
    (λ (ne : b ≡ a → ⊥).
    let never = any_below-never (λ c. is_held (table p c) && (not (eqb c a) && eqb (c % 16) (a % 16))) n free b (x.inside p b held) in
    absurd (true≢false (sym (rw (held, ne_eqb b a ne, eq-eqb (b % 16) (a % 16) class)) ∙ never)))
    (cases_eq b a)

module _ (ws ps : List ℕ) (table : Table) (apart : Apart ps) (x : Fitting (length ws) ps table) where
  -- a start
  pub serve-start : (p k : ℕ) (later : List ℕ) (table' : Table) → Ok k ≡ start_place ps p → later ≡ ps ++ p ∷ [] → table' ≡ table
      → Served (plain_of ws ps table) (Start p) (Ok k) ws later table'
  serve-start p k later table' ok order same =
      let y = ok-start ps p k ok in
      subst (λ (t : Table). Served (plain_of ws ps table) (Start p) (Ok k) ws later t) (sym same)
      (subst (λ (l : List ℕ). Served (plain_of ws ps table) (Start p) (Ok k) ws l table) (sym order)
      (served (plain_of ws ps table) (Start p) k ws (ps ++ p ∷ []) table
      (accepted-by (plain_of ws ps table) (Start p) k (start_place ps p) (start-agrees ws ps table p) ok)
      (y.2 ∙ sym (given-start ws ps table p)) (sym (moved-start ws ps table p (x.idle p y.0))) (apart-push ps p apart y.1 y.0) (fitting-start (length ws) ps table p x)))

  -- a load
  pub serve-load : (p a k w : ℕ) (ws' : List ℕ) (later : List ℕ) (table' : Table) → Ok k ≡ access_place (length ws) ps table p a
      → w ≡ seen_by (map (λ q. table q a) (take (k + 1) ps)) (get_or ws a 0) → ws' ≡ ws → later ≡ ps → table' ≡ with_version table p a (with_load (table p a))
      → Served (plain_of ws ps table) (Load p a) (Ok w) ws' later table'
  serve-load p a k w ws' later table' ok w-is words order same =
      let y = ok-access (length ws) ps table p a k ok in
      let new = with_version table p a (with_load (table p a)) in
      let seen : w ≡ seen_by (map (λ q. table q a) (take (suc k) ps)) (get_or ws a 0) = w-is ∙ ap (λ (j : ℕ). seen_by (map (λ q. table q a) (take j ps)) (get_or ws a 0)) (add-one k) in
      subst (λ (t : Table). Served (plain_of ws ps table) (Load p a) (Ok w) ws' later t) (sym same)
      (subst (λ (l : List ℕ). Served (plain_of ws ps table) (Load p a) (Ok w) ws' l new) (sym order)
      (subst (λ (v : List ℕ). Served (plain_of ws ps table) (Load p a) (Ok w) v ps new) (sym words)
      (served (plain_of ws ps table) (Load p a) w ws ps new
      (accepted-by (plain_of ws ps table) (Load p a) k (access_place (length ws) ps table p a) (load-agrees ws ps table p a) ok)
      (seen ∙ sym (given-load ws ps table p k apart y.0 a))
      (sym (moved-load ws ps table p k apart y.0 a))
      apart
      (fitting-put (length ws) ps table p k a (with_load (table p a)) x y.0 y.2 (class-free (length ws) ps table p a x y.3)))))

  -- a squash
  pub serve-squash : (p k n : ℕ) (later : List ℕ) (table' : Table) → Ok k ≡ squash_place ps p → n ≡ length ps - k → later ≡ take k ps → table' ≡ without_all table (drop k ps)
      → Served (plain_of ws ps table) (Squash p) (Ok n) ws later table'
  serve-squash p k n later table' ok n-is order same =
      let y = ok-squash ps p k ok in
      subst (λ (t : Table). Served (plain_of ws ps table) (Squash p) (Ok n) ws later t) (sym same)
      (subst (λ (l : List ℕ). Served (plain_of ws ps table) (Squash p) (Ok n) ws l (without_all table (drop k ps))) (sym order)
      (served (plain_of ws ps table) (Squash p) n ws (take k ps) (without_all table (drop k ps))
      (accepted-by (plain_of ws ps table) (Squash p) k (squash_place ps p) (squash-agrees ws ps table p) ok)
      (n-is ∙ sym (given-squash ws ps table p k apart y.0))
      (plain-cut ws ps table k apart ∙ sym (moved-squash ws ps table p k apart y.0))
      (apart-take k ps apart)
      (fitting-cut (length ws) ps table k x)))

  -- a commit
  pub serve-commit : (p k n : ℕ) (ws' later : List ℕ) (table' : Table) → Ok k ≡ commit_place ps p → n ≡ count_below (λ a. is_own (table p a)) (length ws)
      → ws' ≡ laid_over_all (table p) ws → later ≡ drop 1 ps → table' ≡ without table p → Served (plain_of ws ps table) (Commit p) (Ok n) ws' later table'
  serve-commit p k n ws' later table' ok n-is words order same =
      let y = ok-commit ps p k ok in
      let first : place_in ps p ≡ Some 0 = y.0 ∙ ap Some y.2 in
      let ws₂ = laid_over_all (table p) ws in
      subst (λ (t : Table). Served (plain_of ws ps table) (Commit p) (Ok n) ws' later t) (sym same)
      (subst (λ (l : List ℕ). Served (plain_of ws ps table) (Commit p) (Ok n) ws' l (without table p)) (sym order)
      (subst (λ (v : List ℕ). Served (plain_of ws ps table) (Commit p) (Ok n) v (drop 1 ps) (without table p)) (sym words)
      (served (plain_of ws ps table) (Commit p) n ws₂ (drop 1 ps) (without table p)
      (accepted-by (plain_of ws ps table) (Commit p) k (commit_place ps p) (commit-agrees ws ps table p) ok)
      (n-is ∙ sym (given-commit ws ps table p k apart y.0))
      (plain-retire ws₂ ps table p apart first ∙ sym (moved-commit ws ps table p k apart y.0 y.2))
      (apart-drop ps apart)
      (subst (λ (m : ℕ). Fitting m (drop 1 ps) (without table p)) (sym (length-laid_over_all (table p) ws)) (fitting-retire (length ws) ps table p x first)))))

  -- a replacement
  pub serve-replace : (p a k n : ℕ) (ws' later : List ℕ) (table' : Table) → Ok k ≡ replace_place (length ws) ps table p a → n ≡ cond (is_own (table p a)) 1 0
      → ws' ≡ written_to (table p a).own a ws → later ≡ ps → table' ≡ with_version table p a no_version → Served (plain_of ws ps table) (Replace p a) (Ok n) ws' later table'
  serve-replace p a k n ws' later table' ok n-is words order same =
      let y = ok-replace (length ws) ps table p a k ok in
      let ws₂ = written_to (table p a).own a ws in
      let new = with_version table p a no_version in
      subst (λ (t : Table). Served (plain_of ws ps table) (Replace p a) (Ok n) ws' later t) (sym same)
      (subst (λ (l : List ℕ). Served (plain_of ws ps table) (Replace p a) (Ok n) ws' l new) (sym order)
      (subst (λ (v : List ℕ). Served (plain_of ws ps table) (Replace p a) (Ok n) v ps new) (sym words)
      (served (plain_of ws ps table) (Replace p a) n ws₂ ps new
      (accepted-by (plain_of ws ps table) (Replace p a) k (replace_place (length ws) ps table p a) (replace-agrees ws ps table p a) ok)
      (n-is ∙ sym (given-replace ws ps table p k apart y.0 a))
      (sym (moved-replace ws ps table p k apart y.0 a))
      apart
      (subst (λ (m : ℕ). Fitting m ps new) (sym (length-written_to (table p a).own a ws))
      (fitting-put (length ws) ps table p k a no_version x y.0 y.2 (replaced-class p a y.4))))))
    where
      replaced-class : (p a : ℕ) → is_held (table p a) ≡ true → (b : ℕ) → is_held (table p b) ≡ true → b % 16 ≡ a % 16 → b ≡ a
      replaced-class p a held b other class = x.one p b a other held class

  -- a store: the later tasks that it hits are cut off first
  pub kept-version : (p k m a : ℕ) → place_in ps p ≡ Some k → k < m → (b : ℕ) → without_all table (drop m ps) p b ≡ table p b
  kept-version p k m a place h b =
      without_all-value table (drop m ps) p b ∙ ap (λ (o : Option ℕ). cond (is_some o) no_version (table p b)) (parts_none m ps p k apart place h)

  pub serve-store : (p a w k n : ℕ) (later : List ℕ) (table₁ table' : Table) → Ok k ≡ access_place (length ws) ps table p a
      → n ≡ squashes table ps k a → later ≡ take (length ps - n) ps → table₁ ≡ without_all table (drop (length ps - n) ps) → table' ≡ with_version table₁ p a (with_store w (table₁ p a))
      → Served (plain_of ws ps table) (Store p a w) (Ok n) ws later table'
  serve-store p a w k n later table₁ table' ok n-is order cut same =
      let y = ok-access (length ws) ps table p a k ok in
      let m = length ps - n in
      let le : k < m = subst (λ (j : ℕ). k < length ps - j) (sym n-is) (squashes-le table ps p k a y.0) in
      let less = without_all table (drop m ps) in
      let mine : (b : ℕ) → less p b ≡ table p b = kept-version p k m a y.0 le in
      let new = with_version less p a (with_store w (less p a)) in
      let plain-new = with_version table p a (with_store w (table p a)) in
      let table_is : table' ≡ new = same ∙ ap (λ (t : Table). with_version t p a (with_store w (t p a))) cut in
      let agree : plain_of ws (take m ps) new ≡ plain_of ws (take m ps) plain-new =
      ap (λ l. record { memory = ws; order = l })
      (tasks-same new plain-new (take m ps)
      (λ q j inside b.
      ap (λ (v : Version). cond (eqb q p && eqb a b) (with_store w v) (less q b)) (mine a)
      ∙ ap (λ (v : Version). cond (eqb q p && eqb a b) (with_store w (table p a)) v) (front_kept q j m inside b))) in
      let class : (b : ℕ) → is_held (less p b) ≡ true → b % 16 ≡ a % 16 → b ≡ a =
      λ b held e. class-free (length ws) ps table p a x y.3 b (held-without table (drop m ps) p b held) e in
      subst (λ (t : Table). Served (plain_of ws ps table) (Store p a w) (Ok n) ws later t) (sym table_is)
      (subst (λ (l : List ℕ). Served (plain_of ws ps table) (Store p a w) (Ok n) ws l new) (sym order)
      (served (plain_of ws ps table) (Store p a w) n ws (take m ps) new
      (accepted-by (plain_of ws ps table) (Store p a w) k (access_place (length ws) ps table p a) (load-agrees ws ps table p a) ok)
      (n-is ∙ sym (given-store ws ps table p k apart y.0 a w))
      (agree ∙ sym (moved_store ws ps table p k apart y.0 a w ∙ ap (λ (j : ℕ). plain_of ws (take (length ps - j) ps) plain-new) (sym n-is)))
      (apart-take m ps apart)
      (fitting-put (length ws) (take m ps) less p k a (with_store w (less p a)) (fitting-cut (length ws) ps table m x) (place-take m ps p k y.0 le) y.2 class)))
    where
      front_kept : (q j m : ℕ) → place_in (take m ps) q ≡ Some j → (b : ℕ) → without_all table (drop m ps) q b ≡ table q b
      front_kept q j m inside b =
          without_all-value table (drop m ps) q b ∙ ap (λ (o : Option ℕ). cond (is_some o) no_version (table q b)) (front_out m ps q j apart inside)

pub ok-value : (w v : ℕ) → ◌≡◌ {A = Result ℕ Refusal} (Ok w) (Ok v) → w ≡ v
ok-value w v e = cc

-- a load, as the buffer serves it: from the tasks t to the tasks u, with the version v put
-- a read of the memory inside its size gives the word
pub read-inside : (ws : List ℕ) (a w : ℕ) → a < length ws → Ok w ≡ read_answer ws a → w ≡ get_or ws a 0
read-inside ws a w h e =
    let f : ◌≡◌ {A = Result ℕ MemoryError} (Ok w) (Ok (get_or ws a 0)) = e ∙ cond-true (ltb a (length ws)) (Ok (get_or ws a 0)) (Err Address) (lt-ltb a (length ws) h) in
    cc

-- how many tasks a store squashes, where the code counts from the place after p's
pub hit-is : (table : Table) (ps : List ℕ) (k a n : ℕ) → n ≡ squashed_by (map (λ q. table q a) (drop (k + 1) ps)) → n ≡ squashes table ps k a
hit-is table ps k a n e = e ∙ ap (λ (j : ℕ). squashed_by (map (λ q. table q a) (drop j ps))) (add-one k)
