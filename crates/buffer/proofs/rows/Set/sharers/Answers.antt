use Rattle.std.proofs.Common.{◌≡◌, ◌%◌, ◌≤◌, ℕ, List, map, length, take, get_or, ap, ◌∙◌, subst, arith, rules}
use Rattle.std.proofs.lemmas.List.{take_all, take-map}
use Rattle.versions.specs.declared.version.Version.{Version}
use Rattle.versions.specs.Sharers.{SharersOf}
use Rattle.buffer.specs.declared.rows.Row.{Row}
use Rattle.buffer.specs.Sets.{no_row, in_row}
use Rattle.buffer.proofs.Buffering.{sharers-placed, sharers-none}
use Rattle.buffer.proofs.rows.Set.sharers.Goals as goal

pub returns-after-loop-k-clause-tasks : goal.returns-after-loop-k-clause-tasks
returns-after-loop-k-clause-tasks c =
    let rs = c.args.self.now in
    let ps = c.args.order.now in
    let items = c.slots-p-items.result.now in
    let f : ℕ → Version = in_row (get_or rs c.in-Some.j no_row) in
    let over : length items ≤ c.loop-k.k = omega (arith, c.slots-p-items.ensures.four, c.loop-k-test.false, c.loop-k.auto.k-end) in
    let same : c.self.inside.rows ≡ rs = search rules in
    let asked : SharersOf (map f items) c.loop-k.sharers =
    subst (λ (x : List Row). SharersOf (map (in_row (get_or x c.in-Some.j no_row)) items) c.loop-k.sharers) same
    (subst (λ (qs : List ℕ). SharersOf (map (in_row (get_or c.self.inside.rows c.in-Some.j no_row)) qs) c.loop-k.sharers) (take_all c.loop-k.k items over) c.loop-k.invariant.1) in
    let tasks : take c.len-active.result items ≡ ps = ap (λ (n : ℕ). take n items) c.len-active.ensures.value ∙ c.slots-p-items.ensures.first in
    let kept : take c.len-active.result (map f items) ≡ map f ps = take-map f c.len-active.result items ∙ ap (map f) tasks in
    sharers-placed (c.args.a % 16) rs ps c.args.a c.in-Some.j c.keep.new.self c.requires c.in-Some.ensures
    (subst (λ (vs : List Version). SharersOf vs c.keep.new.self) kept (c.keep.ensures.first (map f items) asked))

pub returns-in_default-clause-tasks : goal.returns-in_default-clause-tasks
returns-in_default-clause-tasks c =
    sharers-none (c.args.a % 16) c.args.self.now c.args.order.now c.args.a c.new-sharers.result c.requires c.in_default.ensures
    (omega (arith, c.len-active.ensures.value, c.len-active.ensures.bound)) c.new-sharers.ensures.none
