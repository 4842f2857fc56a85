-- The report of a turn, said of an order of processors and a table of versions.
use Rattle.std.proofs.Common.{◌≡◌, ℕ, suc, Bool, true, false, cond, not, ◌&&◌, ◌||◌, List, [], ◌∷◌, map, length, take, drop, is_some, Some, None, Ok, Err, Option, Result, sym, refl, ap, ◌∙◌, arith}
use Rattle.std.specs.Option.{option_map, option_or}
use Rattle.std.specs.List.{list_any, before_first, after_first}
use Rattle.memory.specs.Client.{count_below}
use Rattle.versions.specs.declared.refusal.Refusal.{Refusal}
use Rattle.versions.specs.declared.turn.Turn.{Turn}
use Rattle.versions.specs.declared.turn.Turn.TheVariants.{Load, Store, Commit, Replace}
use Rattle.versions.specs.Orders.{place_in, Apart}
use Rattle.versions.specs.Plain.{Task, Plain, is_on, refusal_of, given, answer_of}
use Rattle.versions.specs.Conditions.{answer_unless}
use Rattle.versions.specs.Tables.{Table, task_by, plain_of, last_that, last_own}
use Rattle.versions.specs.Versions.{is_own, is_held}
use Rattle.versions.proofs.Tabling.{placed, task_on-is, before_first_is, after_first_is, given-commit}
use Rattle.snooping.specs.declared.report.BusReport.{BusReport}
use Rattle.snooping.specs.Grid.{holder}
use Rattle.snooping.specs.Report.{quiet, bus_read, bus_write, written_back, supplied_by, last_owner, reached, powers, written_last, report_by, report_of, report_after}

pub no_answer : (n : ℕ) (e : Refusal) → ◌≡◌ {A = Result ℕ Refusal} (Ok n) (Err e) → ⊥
no_answer n e f = let z : ◌≡◌ {A = ℕ} 0 1 = cc in absurd (omega arith)

-- an accepted turn is reported, and a refused one is not
pub reported : (old : BusReport) (s : Plain) (t : Turn) (n : ℕ) → Ok n ≡ answer_of s t → report_of s t ≡ report_after old s t
unfolding answer_of report_after
reported old s t n e = go (refusal_of s t) refl
  where
    go : (o : Option Refusal) → refusal_of s t ≡ o → report_of s t ≡ report_after old s t
    go None f = sym (ap (λ (o : Option Refusal). report_by o old (report_of s t)) f)
    go (Some x) f = absurd (no_answer n x (e ∙ ap (λ (o : Option Refusal). answer_unless o (given s t)) f))

pub unreported : (old : BusReport) (s : Plain) (t : Turn) (x : Refusal) → Err x ≡ answer_of s t → old ≡ report_after old s t
unfolding answer_of report_after
unreported old s t x e = go (refusal_of s t) refl
  where
    go : (o : Option Refusal) → refusal_of s t ≡ o → old ≡ report_after old s t
    go None f = absurd (no_answer (given s t) x (sym (ap (λ (o : Option Refusal). answer_unless o (given s t)) f) ∙ sym e))
    go (Some y) f = sym (ap (λ (o : Option Refusal). report_by o old (report_of s t)) f)

module _ (table : Table) where
  owner-is : (a : ℕ) (qs : List ℕ) → last_owner a (map (task_by table) qs) ≡ last_that (λ q. is_own (table q a)) qs
  owner-is a [] = refl
  owner-is a (q ∷ qs) =
      go (last_that (λ t. is_own (t.at a)) (map (task_by table) qs)) (is_own (table q a))
      ∙ ap (λ (o : Option ℕ). option_or o (cond (is_own (table q a)) (Some q) None)) (owner-is a qs)
    where
      go : (o : Option Task) (u : Bool) → option_map (λ t. t.on) (option_or o (cond u (Some (task_by table q)) None)) ≡ option_or (option_map (λ t. t.on) o) (cond u (Some q) None)
      go None true = refl
      go None false = refl
      go (Some t) u = refl

  holds-is : (a : ℕ) (qs : List ℕ) → list_any (λ t. is_held (t.at a)) (map (task_by table) qs) ≡ is_some (holder table a qs)
  holds-is a [] = refl
  holds-is a (q ∷ qs) = go (is_held (table q a)) (holds-is a qs)
    where
      go : (t : Bool) → list_any (λ u. is_held (u.at a)) (map (task_by table) qs) ≡ is_some (holder table a qs) → (t || list_any (λ u. is_held (u.at a)) (map (task_by table) qs)) ≡ is_some (cond t (Some q) (holder table a qs))
      go true e = refl
      go false e = e

  reached-is : (a : ℕ) (qs : List ℕ) → map (λ t. t.on) (reached (λ t. t.at a) (map (task_by table) qs)) ≡ reached (λ q. table q a) qs
  reached-is a [] = refl
  reached-is a (q ∷ qs) = go (is_own (table q a)) (table q a).mark (reached-is a qs)
    where
      go : (t u : Bool) → map (λ x. x.on) (reached (λ x. x.at a) (map (task_by table) qs)) ≡ reached (λ r. table r a) qs
          → map (λ x. x.on) (cond t (cond u (task_by table q ∷ []) []) (task_by table q ∷ reached (λ x. x.at a) (map (task_by table) qs))) ≡ cond t (cond u (q ∷ []) []) (q ∷ reached (λ r. table r a) qs)
      go true true e = refl
      go true false e = refl
      go false u e = ap (λ (l : List ℕ). q ∷ l) e

module _ (ws ps : List ℕ) (table : Table) (p k : ℕ) (apart : Apart ps) (place : place_in ps p ≡ Some k) where
  pub report-load : (a : ℕ) → report_of (plain_of ws ps table) (Load p a) ≡ cond (is_held (table p a)) quiet (bus_read a (supplied_by (last_that (λ q. is_own (table q a)) (take k ps))))
  report-load a =
      let x = placed ps p k place in
      ap (λ (t : Task). cond (is_held (t.at a)) quiet (bus_read a (supplied_by (last_owner a (before_first (is_on p) (map (task_by table) ps)))))) (task_on-is table ps p k x)
      ∙ ap (λ (o : Option ℕ). cond (is_held (table p a)) quiet (bus_read a (supplied_by o))) (ap (last_owner a) (before_first_is table ps p k x) ∙ owner-is table a (take k ps))

  pub report-store : (a w : ℕ) → report_of (plain_of ws ps table) (Store p a w)
      ≡ cond (is_own (table p a) && not (is_some (holder table a (drop (suc k) ps)))) quiet (bus_write a (powers (reached (λ q. table q a) (drop (suc k) ps))))
  report-store a w =
      let x = placed ps p k place in
      let later = after_first_is table ps p k x in
      ap (λ (t : Task). cond (is_own (t.at a) && not (list_any (λ u. is_held (u.at a)) (after_first (is_on p) (map (task_by table) ps)))) quiet
      (bus_write a (powers (map (λ u. u.on) (reached (λ u. u.at a) (after_first (is_on p) (map (task_by table) ps))))))) (task_on-is table ps p k x)
      ∙ (ap (λ (l : List Task). cond (is_own (table p a) && not (list_any (λ u. is_held (u.at a)) l)) quiet (bus_write a (powers (map (λ u. u.on) (reached (λ u. u.at a) l))))) later
      ∙ (ap (λ (b : Bool). cond (is_own (table p a) && not b) quiet (bus_write a (powers (map (λ u. u.on) (reached (λ u. u.at a) (map (task_by table) (drop (suc k) ps))))))) (holds-is table a (drop (suc k) ps))
      ∙ ap (λ (l : List ℕ). cond (is_own (table p a) && not (is_some (holder table a (drop (suc k) ps)))) quiet (bus_write a (powers l))) (reached-is table a (drop (suc k) ps))))

  pub report-commit : report_of (plain_of ws ps table) (Commit p) ≡ written_last (last_own (table p) (length ws) 16) (count_below (λ a. is_own (table p a)) (length ws))
  report-commit =
      ap (λ (t : Task). written_last (last_own t.at (length ws) 16) (given (plain_of ws ps table) (Commit p))) (task_on-is table ps p k (placed ps p k place))
      ∙ ap (written_last (last_own (table p) (length ws) 16)) (given-commit ws ps table p k apart place)

  pub report-replace : (a : ℕ) → report_of (plain_of ws ps table) (Replace p a) ≡ cond (is_own (table p a)) (written_back a 1) quiet
  report-replace a = ap (λ (t : Task). cond (is_own (t.at a)) (written_back a 1) quiet) (task_on-is table ps p k (placed ps p k place))
