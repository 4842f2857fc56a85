-- Which turns are refused, said of an order of processors and a table of versions.
use Rattle.std.proofs.Common.{◌≡◌, ℕ, suc, ◌<◌, Bool, true, false, cond, not, eqb, leb, List, [], ◌∷◌, map, length, is_some, Some, None, Ok, Err, Option, Result, sym, refl, ap, ◌∙◌, subst, arith}
use Rattle.std.specs.List.{list_any}
use Rattle.std.specs.Option.{ok_or, option_map}
use Rattle.std.proofs.lemmas.Bool.{leb-false, eqb-true, eq-eqb, ne_eqb, true≢false, not-false}
use Rattle.versions.specs.declared.refusal.Refusal.{Refusal}
use Rattle.versions.specs.declared.refusal.Refusal.TheVariants.{NoProcessor, TaskActive, NoTask, NoAddress, ClassTaken, NotHead, IsHead, NotHeld}
use Rattle.versions.specs.declared.turn.Turn.{Turn}
use Rattle.versions.specs.declared.turn.Turn.TheVariants.{Start, Load, Squash, Commit, Replace}
use Rattle.versions.specs.Orders.{place_in}
use Rattle.versions.specs.Versions.{is_held}
use Rattle.versions.specs.Plain.{Task, Plain, is_on, task_on, is_head, holds_class, refusal_of, given, moved, unless_refused, answer_of, state_after}
use Rattle.versions.specs.Conditions.{answer_unless}
use Rattle.versions.specs.Tables.{Table, task_by, plain_of, start_place, with_processor, active_place, unless, access_place, squash_place, commit_place, replace_place}
use Rattle.versions.proofs.Ordering.{place_in-cons}
use Rattle.versions.proofs.Tabling.{placed, any-task_by, task_on-is}

-- a refused turn; an accepted one
pub refused-turn : (s : Plain) (t : Turn) (e : Refusal) → refusal_of s t ≡ Some e → (Err e ≡ answer_of s t) × (s ≡ state_after s t)
unfolding answer_of state_after
refused-turn s t e h = (ap (λ (o : Option Refusal). answer_unless o (given s t)) (sym h), ap (λ (o : Option Refusal). unless_refused o s (moved s t)) (sym h))

pub accepted-turn : (s : Plain) (t : Turn) → refusal_of s t ≡ None → (Ok (given s t) ≡ answer_of s t) × (moved s t ≡ state_after s t)
unfolding answer_of state_after
accepted-turn s t h = (ap (λ (o : Option Refusal). answer_unless o (given s t)) (sym h), ap (λ (o : Option Refusal). unless_refused o s (moved s t)) (sym h))

-- the answer of a chain of tests agrees with a list of conditions: refused alike, or accepted
abbrev pub Agrees : Result ℕ Refusal → Option Refusal → Type 0
Agrees (Ok k) o = o ≡ None
Agrees (Err e) o = o ≡ Some e

chain-one : (f : ℕ → Bool) (e : Refusal) (low : Bool) (o : Option ℕ) (u : Bool) → ((k : ℕ) → o ≡ Some k → f k ≡ u)
    → Agrees (unless (cond low (Err NoProcessor) (ok_or o NoTask)) f e) (cond low (Some NoProcessor) (cond (not (is_some o)) (Some NoTask) (cond u (Some e) None)))
chain-one f e true o u h = refl
chain-one f e false None u h = refl
chain-one f e false (Some k) u h = go (f k) u (h k refl)
  where
    go : (t u : Bool) → t ≡ u → Agrees (cond t (Err e) (Ok k)) (cond u (Some e) None)
    go true true h = refl
    go true false h = absurd (true≢false h)
    go false true h = absurd (true≢false (sym h))
    go false false h = refl

chain-two : (g : Bool) (d : Refusal) (f : ℕ → Bool) (e : Refusal) (low : Bool) (o : Option ℕ) (u : Bool) → ((k : ℕ) → o ≡ Some k → f k ≡ u)
    → Agrees (unless (unless (cond low (Err NoProcessor) (ok_or o NoTask)) (λ k. g) d) f e)
    (cond low (Some NoProcessor) (cond (not (is_some o)) (Some NoTask) (cond g (Some d) (cond u (Some e) None))))
chain-two g d f e true o u h = refl
chain-two g d f e false None u h = refl
chain-two true d f e false (Some k) u h = refl
chain-two false d f e false (Some k) u h = chain-one f e false (Some k) u h

chain-three : (g : Bool) (d : Refusal) (i : ℕ → Bool) (c : Refusal) (v : Bool) (f : ℕ → Bool) (e : Refusal) (low : Bool) (o : Option ℕ) (u : Bool)
    → ((k : ℕ) → o ≡ Some k → i k ≡ v) → ((k : ℕ) → o ≡ Some k → f k ≡ u)
    → Agrees (unless (unless (unless (cond low (Err NoProcessor) (ok_or o NoTask)) (λ k. g) d) i c) f e)
    (cond low (Some NoProcessor) (cond (not (is_some o)) (Some NoTask) (cond g (Some d) (cond v (Some c) (cond u (Some e) None)))))
chain-three g d i c v f e true o u hi hf = refl
chain-three g d i c v f e false None u hi hf = refl
chain-three true d i c v f e false (Some k) u hi hf = refl
chain-three false d i c v f e false (Some k) u hi hf = go (i k) v (hi k refl) (chain-one f e false (Some k) u hf)
  where
    go : (t v : Bool) → t ≡ v → Agrees (unless (Ok k) f e) (cond u (Some e) None) → Agrees (unless (cond t (Err c) (Ok k)) f e) (cond v (Some c) (cond u (Some e) None))
    go true true h again = refl
    go true false h again = absurd (true≢false h)
    go false true h again = absurd (true≢false (sym h))
    go false false h again = again

-- p has the head where its place is the first
head-is : (table : Table) (ps : List ℕ) (p k : ℕ) → place_in ps p ≡ Some k → is_head p (map (task_by table) ps) ≡ eqb k 0
head-is table [] p k e = let z : ◌≡◌ {A = ℕ} 0 1 = cc in absurd (omega arith)
head-is table (q ∷ ps) p k e = go (eqb q p) (place_in ps p) (sym (place_in-cons q ps p) ∙ e)
  where
    go : (t : Bool) (o : Option ℕ) → cond t (Some 0) (option_map suc o) ≡ Some k → t ≡ eqb k 0
    go true o e = let z : 0 ≡ k = cc in sym (eq-eqb k 0 (sym z))
    go false None e = let z : ◌≡◌ {A = ℕ} 0 1 = cc in absurd (omega arith)
    go false (Some j) e = let z : suc j ≡ k = cc in sym (ne_eqb k 0 (omega arith))

module _ (ws ps : List ℕ) (table : Table) (p : ℕ) where
  active-test : list_any (is_on p) (map (task_by table) ps) ≡ is_some (place_in ps p)
  active-test = any-task_by table ps p

  task-test : (k : ℕ) → place_in ps p ≡ Some k → task_on p (map (task_by table) ps) ≡ task_by table p
  task-test k e = task_on-is table ps p k (placed ps p k e)

  pub start-agrees : Agrees (start_place ps p) (refusal_of (plain_of ws ps table) (Start p))
  start-agrees = subst (λ (t : Bool). Agrees (start_place ps p) (cond (leb 4 p) (Some NoProcessor) (cond t (Some TaskActive) None))) (sym active-test) (go (leb 4 p) (place_in ps p))
    where
      go : (low : Bool) (o : Option ℕ) → Agrees (cond low (Err NoProcessor) (cond (is_some o) (Err TaskActive) (Ok (length ps)))) (cond low (Some NoProcessor) (cond (is_some o) (Some TaskActive) None))
      go true o = refl
      go false None = refl
      go false (Some k) = refl

  pub load-agrees : (a : ℕ) → Agrees (access_place (length ws) ps table p a) (refusal_of (plain_of ws ps table) (Load p a))
  load-agrees a =
      subst (λ (t : Bool). Agrees (access_place (length ws) ps table p a)
      (cond (leb 4 p) (Some NoProcessor) (cond (not t) (Some NoTask) (cond (leb (length ws) a) (Some NoAddress) (cond (holds_class (task_on p (map (task_by table) ps)) a (length ws)) (Some ClassTaken) None)))))
      (sym active-test)
      (chain-two (leb (length ws) a) NoAddress (λ k. holds_class (task_by table p) a (length ws)) ClassTaken (leb 4 p) (place_in ps p) (holds_class (task_on p (map (task_by table) ps)) a (length ws))
      (λ k e. ap (λ (t : Task). holds_class t a (length ws)) (sym (task-test k e))))

  pub squash-agrees : Agrees (squash_place ps p) (refusal_of (plain_of ws ps table) (Squash p))
  squash-agrees =
      subst (λ (t : Bool). Agrees (squash_place ps p) (cond (leb 4 p) (Some NoProcessor) (cond (not t) (Some NoTask) (cond (is_head p (map (task_by table) ps)) (Some IsHead) None))))
      (sym active-test)
      (chain-one (λ k. eqb k 0) IsHead (leb 4 p) (place_in ps p) (is_head p (map (task_by table) ps)) (λ k e. sym (head-is table ps p k e)))

  pub commit-agrees : Agrees (commit_place ps p) (refusal_of (plain_of ws ps table) (Commit p))
  commit-agrees =
      subst (λ (t : Bool). Agrees (commit_place ps p) (cond (leb 4 p) (Some NoProcessor) (cond (not t) (Some NoTask) (cond (not (is_head p (map (task_by table) ps))) (Some NotHead) None))))
      (sym active-test)
      (chain-one (λ k. not (eqb k 0)) NotHead (leb 4 p) (place_in ps p) (not (is_head p (map (task_by table) ps))) (λ k e. ap not (sym (head-is table ps p k e))))

  pub replace-agrees : (a : ℕ) → Agrees (replace_place (length ws) ps table p a) (refusal_of (plain_of ws ps table) (Replace p a))
  replace-agrees a =
      subst (λ (t : Bool). Agrees (replace_place (length ws) ps table p a)
      (cond (leb 4 p) (Some NoProcessor) (cond (not t) (Some NoTask) (cond (leb (length ws) a) (Some NoAddress)
      (cond (not (is_head p (map (task_by table) ps))) (Some NotHead) (cond (not (is_held ((task_on p (map (task_by table) ps)).at a))) (Some NotHeld) None))))))
      (sym active-test)
      (chain-three (leb (length ws) a) NoAddress (λ k. not (eqb k 0)) NotHead (not (is_head p (map (task_by table) ps))) (λ k. not (is_held (table p a))) NotHeld (leb 4 p) (place_in ps p)
      (not (is_held ((task_on p (map (task_by table) ps)).at a)))
      (λ k e. ap not (sym (head-is table ps p k e)))
      (λ k e. ap (λ (t : Task). not (is_held (t.at a))) (sym (task-test k e))))

-- what an accepted chain says
ok-unless : (r : Result ℕ Refusal) (f : ℕ → Bool) (e : Refusal) (k : ℕ) → Ok k ≡ unless r f e → (Ok k ≡ r) × (f k ≡ false)
ok-unless (Ok j) f e k h = go (f j) refl h
  where
    go : (t : Bool) → f j ≡ t → Ok k ≡ cond t (Err e) (Ok j) → (◌≡◌ {A = Result ℕ Refusal} (Ok k) (Ok j)) × (f k ≡ false)
    go true x h = let z : ◌≡◌ {A = ℕ} 0 1 = cc in absurd (omega arith)
    go false x h = let same : k ≡ j = cc in (h, ap f same ∙ x)
ok-unless (Err x) f e k h = let z : ◌≡◌ {A = ℕ} 0 1 = cc in absurd (omega arith)

-- a place that stands beside the processor p
same-pair : (x y : ℕ × ℕ) → ◌≡◌ {A = Result (ℕ × ℕ) Refusal} (Ok x) (Ok y) → x ≡ y
same-pair x y e = cc

pub at-processor : (p q k : ℕ) (place : ℕ → Result ℕ Refusal) → Ok (q, k) ≡ with_processor p (place p) → (q ≡ p) × (Ok k ≡ place q)
at-processor p q k place h = go (place p) refl h
  where
    go : (r : Result ℕ Refusal) → place p ≡ r → Ok (q, k) ≡ with_processor p r → (q ≡ p) × (Ok k ≡ place q)
    go (Ok j) e h = let same = same-pair (q, k) (p, j) h in (ap (λ x. x.0) same, ap (λ x. Ok x.1) same ∙ (sym e ∙ ap (λ x. place x.0) (sym same)))
    go (Err x) e h = let z : ◌≡◌ {A = ℕ} 0 1 = cc in absurd (omega arith)

pub no-place : (p : ℕ) (e : Refusal) (r : Result ℕ Refusal) → Err e ≡ with_processor p r → Err e ≡ r
no-place p e (Ok j) h = let z : ◌≡◌ {A = ℕ} 0 1 = cc in absurd (omega arith)
no-place p e (Err x) h = cc

pub ok-start : (ps : List ℕ) (p k : ℕ) → Ok k ≡ start_place ps p → (place_in ps p ≡ None) × (p < 4) × (k ≡ length ps)
ok-start ps p k h = go (leb 4 p) refl (place_in ps p) h
  where
    go : (t : Bool) → leb 4 p ≡ t → (o : Option ℕ) → Ok k ≡ cond t (Err NoProcessor) (cond (is_some o) (Err TaskActive) (Ok (length ps))) → (o ≡ None) × (p < 4) × (k ≡ length ps)
    go true x o h = let z : ◌≡◌ {A = ℕ} 0 1 = cc in absurd (omega arith)
    go false x None h = let same : k ≡ length ps = cc in (refl, leb-false 4 p x, same)
    go false x (Some j) h = let z : ◌≡◌ {A = ℕ} 0 1 = cc in absurd (omega arith)

pub ok-active : (ps : List ℕ) (p k : ℕ) → Ok k ≡ active_place ps p → (place_in ps p ≡ Some k) × (p < 4)
ok-active ps p k h = go (leb 4 p) refl (place_in ps p) h
  where
    go : (t : Bool) → leb 4 p ≡ t → (o : Option ℕ) → Ok k ≡ cond t (Err NoProcessor) (ok_or o NoTask) → (o ≡ Some k) × (p < 4)
    go true x o h = let z : ◌≡◌ {A = ℕ} 0 1 = cc in absurd (omega arith)
    go false x None h = let z : ◌≡◌ {A = ℕ} 0 1 = cc in absurd (omega arith)
    go false x (Some j) h = let same : k ≡ j = cc in (ap Some (sym same), leb-false 4 p x)

pub ok-access : (n : ℕ) (ps : List ℕ) (table : Table) (p a k : ℕ) → Ok k ≡ access_place n ps table p a → (place_in ps p ≡ Some k) × (p < 4) × (a < n) × (holds_class (task_by table p) a n ≡ false)
ok-access n ps table p a k h =
    let one = ok-unless (unless (active_place ps p) (λ k. leb n a) NoAddress) (λ k. holds_class (task_by table p) a n) ClassTaken k h in
    let two = ok-unless (active_place ps p) (λ k. leb n a) NoAddress k one.0 in
    let three = ok-active ps p k two.0 in
    (three.0, three.1, leb-false n a two.1, one.1)

pub ok-squash : (ps : List ℕ) (p k : ℕ) → Ok k ≡ squash_place ps p → (place_in ps p ≡ Some k) × (p < 4)
ok-squash ps p k h = ok-active ps p k (ok-unless (active_place ps p) (λ k. eqb k 0) IsHead k h).0

first-place : (k : ℕ) → not (eqb k 0) ≡ false → k ≡ 0
first-place k h = eqb-true k 0 (not-false (eqb k 0) h)

pub ok-commit : (ps : List ℕ) (p k : ℕ) → Ok k ≡ commit_place ps p → (place_in ps p ≡ Some k) × (p < 4) × (k ≡ 0)
ok-commit ps p k h =
    let one = ok-unless (active_place ps p) (λ k. not (eqb k 0)) NotHead k h in
    let two = ok-active ps p k one.0 in
    (two.0, two.1, first-place k one.1)

pub ok-replace : (n : ℕ) (ps : List ℕ) (table : Table) (p a k : ℕ) → Ok k ≡ replace_place n ps table p a
    → (place_in ps p ≡ Some k) × (p < 4) × (a < n) × (k ≡ 0) × (is_held (table p a) ≡ true)
ok-replace n ps table p a k h =
    let one = ok-unless (unless (unless (active_place ps p) (λ k. leb n a) NoAddress) (λ k. not (eqb k 0)) NotHead) (λ k. not (is_held (table p a))) NotHeld k h in
    let two = ok-unless (unless (active_place ps p) (λ k. leb n a) NoAddress) (λ k. not (eqb k 0)) NotHead k one.0 in
    let three = ok-unless (active_place ps p) (λ k. leb n a) NoAddress k two.0 in
    let four = ok-active ps p k three.0 in
    (four.0, four.1, leb-false n a three.1, first-place k two.1, not-false (is_held (table p a)) one.1)
