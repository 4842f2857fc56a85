use Rattle.std.proofs.Common.{◌≡◌, ℕ, ◌+◌, ◌-◌, length, Some, Err, sym, ap, ◌∙◌, subst, arith}
use Rattle.player.specs.Left.{after, line_turn}
use Rattle.player.specs.Lists.{content, free, room, row_of}
use Rattle.player.specs.Splits.{text_lines, line_end}
use Rattle.player.specs.Text.{lines_read, text_read}
use Rattle.player.specs.Tokens.{word_seen, part_length}
use Rattle.player.proofs.Exact.{text-exact}
use Rattle.player.proofs.Following.{after-part}
use Rattle.player.proofs.Reading.{Begun, after-length, verb-taken, line-turn, line-stops, line-goes-on}
use Rattle.player.proofs.text.read_turns.Goals as goal

pub read_line-requires : goal.read_line-requires
read_line-requires c = ap part_length c.in-Some.ensures.text ∙ (after-part c.loop-first.tokens.rest.now).2

pub returns-in-Err : goal.returns-in-Err
returns-in-Err c =
    let s = c.loop-first.tokens.rest.now in
    let at = c.loop-first.tokens.at in
    let l = c.loop-first.turns in
    let l₀ = c.args.turns.now in
    let first = c.in-Some.first in
    let left = c.verb.new.self.rest.now in
    let e = c.in-Some.ensures in
    let v = verb-taken at first.at s (word_seen first.token) e.token in
    let f = c.in-Err.ensures in
    let d = line-stops at (room l) s (content l₀) (row_of l₀) (content l) (row_of l) (content c.read_line.new.turns) (row_of c.read_line.new.turns)
    (text_read (free l₀) c.args.text.now) (line_turn (word_seen first.token) left) c.in-Err.why v.0 (line-turn s left (word_seen first.token) v.1 e.text)
    f.answer f.after f.row c.loop-first.invariant.0 in
    record {
      answer = ap (λ (k : ℕ). Err (record { why = c.in-Err.why; place = k })) v.2 ∙ d.answer;
      after = d.turns;
      row = d.rows;
      exact = text-exact (free l₀) c.args.text.now;
      room = f.room ∙ c.loop-first.invariant.1;
    }

pub loop-first-smaller : goal.loop-first-smaller
loop-first-smaller c =
    let s = c.loop-first.tokens.rest.now in
    let e = c.in-Some.ensures in
    let f = c.in_default-read_line.ensures in
    let rest : after line_end s ≡ Some c.read_line.new.tokens.rest.now = sym (after-part s).1 ∙ (ap (after line_end) (sym e.text) ∙ f.line) in
    omega (arith, after-length line_end s c.read_line.new.tokens.rest.now rest)

pub loop-first-preserved : goal.loop-first-preserved
loop-first-preserved c =
    let s = c.loop-first.tokens.rest.now in
    let at = c.loop-first.tokens.at in
    let l = c.loop-first.turns in
    let l₀ = c.args.turns.now in
    let l' = c.read_line.new.turns in
    let t' = c.read_line.new.tokens in
    let first = c.in-Some.first in
    let left = c.verb.new.self.rest.now in
    let all = text_read (free l₀) c.args.text.now in
    let e = c.in-Some.ensures in
    let v = verb-taken at first.at s (word_seen first.token) e.token in
    let f = c.in_default-read_line.ensures in
    let rest : after line_end s ≡ Some t'.rest.now = sym (after-part s).1 ∙ (ap (after line_end) (sym e.text) ∙ f.line) in
    let place : t'.at + length t'.rest.now ≡ at + length s = f.place ∙ e.place in
    let d = line-goes-on at t'.at (room l) s t'.rest.now (content l₀) (row_of l₀) (content l) (row_of l) (content l') (row_of l')
    all (line_turn (word_seen first.token) left) v.0 (line-turn s left (word_seen first.token) v.1 e.text)
    f.answer f.after f.row rest place c.loop-first.invariant.0 in (
      subst (λ (k : ℕ). Begun (content l₀) (row_of l₀) all (content l') (row_of l') (lines_read t'.at (k - length (content l')) (text_lines t'.rest.now))) (sym f.room) d,
      f.room ∙ c.loop-first.invariant.1,
    )

pub returns-clause-exact : goal.returns-clause-exact
returns-clause-exact c = text-exact (free c.args.turns.now) c.args.text.now
