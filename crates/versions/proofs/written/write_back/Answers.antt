use Rattle.std.proofs.Common.{◌≡◌, ℕ, ◌+◌, length, sym, refl, ap, ◌∙◌, subst}
use Rattle.versions.specs.Tables.{Fitting, up_to_class, of_class}
use Rattle.versions.specs.Versions.{is_own}
use Rattle.versions.proofs.Classes.{words-all, count-all}
use Rattle.versions.proofs.Holding.{length-laid_over_all}
use Rattle.versions.proofs.Writing.{WrittenBelow, below-none, left-first, below-lowest, below-written, below-end, left-next}
use Rattle.versions.proofs.written.write_back.Goals as goal

pub loop-c-init : goal.loop-c-init
loop-c-init g c =
    let ws = g.M.Memory.words c.args.memory.now in
    let at = g.T.TaskTable.table c.args.tasks.now c.args.p in
    (c.requires.sound, refl, (0, below-none at ws _ _ c.default-wrote.ensures.0 c.default-wrote.ensures.1, left-first at c.classes-left.result c.classes-left.ensures))

pub write_class-requires-clause-fitting : goal.write_class-requires-clause-fitting
write_class-requires-clause-fitting g c =
    let m = g.T.TaskTable in
    let ws = g.M.Memory.words c.args.memory.now in
    let at = m.table c.args.tasks.now c.args.p in
    let i = c.loop-c.invariant.2.0 in
    let written = c.loop-c.invariant.2.1 in
    subst (λ (n : ℕ). Fitting n (m.processors c.args.tasks.now) (m.table c.args.tasks.now))
    (sym (ap length written.words ∙ length-laid_over_all (up_to_class at i) ws)) c.requires.fitting

pub loop-c-preserved : goal.loop-c-preserved
loop-c-preserved g c =
    let ws = g.M.Memory.words c.args.memory.now in
    let at = g.T.TaskTable.table c.args.tasks.now c.args.p in
    let k = c.in-Some.c in
    let i = c.loop-c.invariant.2.0 in
    let from = c.loop-c.invariant.2.2 in
    let vs = g.M.Memory.words c.loop-c.memory in
    let later = g.M.Memory.words c.write_class.new.memory in
    let before : WrittenBelow at k ws vs c.loop-c.wrote.words c.loop-c.wrote.last =
    below-lowest at ws vs _ _ c.loop-c.left i k c.loop-c.invariant.2.1 from c.in-Some.ensures.lowest in
    let long : length vs ≡ length ws = ap length before.words ∙ length-laid_over_all (up_to_class at k) ws in (
      c.write_class.ensures.kept,
      c.write_class.ensures.beside ∙ c.loop-c.invariant.1,
      (
        k + 1,
        below-written at k ws vs later _ _ _ _ _ _ before (c.write_class.ensures.class ws before.words) c.write_class.ensures.bound
            (c.write_class.ensures.address ∙ ap (of_class (λ a. is_own (at a)) k) long) c.and-wrote.ensures.words c.and-wrote.ensures.last,
        left-next at c.loop-c.left c.take_lowest.new.self i k from c.in-Some.ensures.lowest c.in-Some.ensures.rest,
      ),
    )

pub returns : goal.returns
returns g c =
    let ws = g.M.Memory.words c.args.memory.now in
    let at = g.T.TaskTable.table c.args.tasks.now c.args.p in
    let all : WrittenBelow at 16 ws (g.M.Memory.words c.loop-c.memory) c.loop-c.wrote.words c.loop-c.wrote.last =
    below-end at ws _ _ _ c.loop-c.left c.loop-c.invariant.2.0 c.loop-c.invariant.2.1 c.loop-c.invariant.2.2 c.in_default.ensures.none in
    record {
      count = all.count ∙ count-all at (length ws);
      last = all.address;
      words = all.words ∙ words-all at ws;
      beside = c.loop-c.invariant.1;
      kept = c.loop-c.invariant.0;
    }
