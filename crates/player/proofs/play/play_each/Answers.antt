use Rattle.std.proofs.Common.{◌≡◌, ℕ, ◌+◌, ◌-◌, ◌<◌, ◌≤◌, true, List, ◌++◌, length, take, Result, sym, ap, ◌∙◌, subst, arith}
use Rattle.versions.specs.declared.refusal.Refusal.{Refusal}
use Rattle.versions.specs.declared.turn.Turn.TheVariants.{Start}
use Rattle.versions.specs.Plain.{active_tasks, answers_of, state_after_all}
use Rattle.versions.specs.Taken.{ShowsAll}
use Rattle.versions.proofs.Playing.{state-step, shows-step}
use Rattle.player.specs.Lists.{content, free, room, row_of, is_full}
use Rattle.player.specs.Text.{written}
use Rattle.player.proofs.Adding.{answers-more, one-added, all-added, length-played, no_place}
use Rattle.player.proofs.play.play_each.Goals as goal

pub loop-i-preserved : goal.loop-i-preserved
loop-i-preserved g c =
    let m = g.S.VersionStore in
    let s = m.plain c.args.store.now in
    let ts = c.args.turns.now in
    let i = c.loop-i.i in
    let l₀ = c.args.answers.now in
    let l = c.loop-i.answers in
    let inv = c.loop-i.invariant in
    let inside : i < length ts = omega arith in
    let more = answers-more s ts i (Start 0) (m.plain c.loop-i.store) c.take_turn.result inside inv.1 c.take_turn.ensures.answer in
    let a = one-added (content l₀) (row_of l₀) (answers_of s (take i ts)) (room l) i (content l) (row_of l) c.take_turn.result
    (length-played s ts i (omega arith)) (sym c.is_full.ensures ∙ c.if-is_full.false) inv.2.0 inv.2.1 in (
      c.take_turn.ensures.kept,
      state-step s ts i (Start 0) (m.plain c.loop-i.store) (m.plain c.take_turn.new.self) inside inv.1 c.take_turn.ensures.after,
      (
        c.push.ensures.after ∙ (a.0 ∙ ap (λ (x : List (Result ℕ Refusal)). content l₀ ++ x) (sym more)),
        c.push.ensures.row ∙ (a.1 ∙ ap (λ (x : List (Result ℕ Refusal)). written (row_of l₀) (length (content l₀)) x) (sym more)),
        c.push.ensures.room ∙ inv.2.2,
      ),
      subst (λ (k : ℕ). i + 1 ≤ k - length (content l₀)) inv.2.2 a.2,
      c.take_turn.ensures.beside ∙ inv.4,
      shows-step m.plain m.shows c.args.store.now c.loop-i.store c.take_turn.new.self ts i (Start 0) inside inv.5 c.take_turn.ensures.after c.take_turn.ensures.shows,
    )

pub returns-then-is_full : goal.returns-then-is_full
returns-then-is_full g c =
    let m = g.S.VersionStore in
    let s = m.plain c.args.store.now in
    let ts = c.args.turns.now in
    let i = c.loop-i.i in
    let l₀ = c.args.answers.now in
    let l = c.loop-i.answers in
    let inv = c.loop-i.invariant in
    let all : i ≡ free l₀ = all-added (content l₀) (answers_of s (take i ts)) (room l₀) i (content l) (length-played s ts i (omega arith))
    (subst (λ (k : ℕ). is_full (content l) k ≡ true) inv.2.2 (sym c.is_full.ensures ∙ c.if-is_full.true)) inv.2.0 inv.3 in
    record {
      answer = no_place (free l₀) i (active_tasks (m.plain c.loop-i.store)) ts (omega arith) all;
      answers = (
        inv.2.0 ∙ ap (λ (k : ℕ). content l₀ ++ answers_of s (take k ts)) all,
        inv.2.1 ∙ ap (λ (k : ℕ). written (row_of l₀) (length (content l₀)) (answers_of s (take k ts))) all,
        inv.2.2,
      );
      after = inv.1 ∙ ap (λ (k : ℕ). state_after_all s (take k ts)) all;
      shows = subst (λ (k : ℕ). ShowsAll m.plain m.shows c.args.store.now (take k ts) c.loop-i.store) all inv.5;
      beside = inv.4;
      kept = inv.0;
    }
