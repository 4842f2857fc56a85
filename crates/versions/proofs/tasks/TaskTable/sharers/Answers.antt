use Rattle.std.proofs.Common.{◌≡◌, ◌≤◌, ℕ, List, take, length, sym, ap, ◌∙◌, subst, arith}
use Rattle.std.proofs.lemmas.List.{take_all, take-map}
use Rattle.versions.specs.declared.version.Version.{Version}
use Rattle.versions.specs.Sharers.{SharersOf, versions_of}
use Rattle.versions.proofs.tasks.TaskTable.sharers.Goals as goal

pub returns-clause-tasks : goal.returns-clause-tasks
returns-clause-tasks g c =
    let m = g.Self.TaskTable in
    let s = c.args.self.now in
    let ps = m.processors s in
    let items = c.slots-p-items.result.now in
    let table = m.table s in
    let a = c.args.a in
    let n = c.len.result in
    let over : length items ≤ c.loop-k.k = omega (arith, c.slots-p-items.ensures.four, c.loop-k-test.false, c.loop-k.auto.k-end) in
    let asked : SharersOf (versions_of table a items) c.loop-k.sharers =
    subst (λ (l : List ℕ). SharersOf (versions_of table a l) c.loop-k.sharers) (take_all c.loop-k.k items over) c.loop-k.invariant.1 in
    let many : n ≡ length c.order.result.now = c.len.ensures.value ∙ ap length (c.order-2.ensures ∙ sym c.order.ensures) in
    let tasks : take n items ≡ ps = ap (λ (j : ℕ). take j items) many ∙ (c.slots-p-items.ensures.first ∙ c.order.ensures) in
    let kept : take n (versions_of table a items) ≡ versions_of table a ps = take-map (λ q. table q a) n items ∙ ap (versions_of table a) tasks in
    let address : c.keep.new.self.address ≡ a = c.keep.ensures.address ∙ c.loop-k.invariant.0 in
    subst (λ (b : ℕ). SharersOf (versions_of table b ps) c.keep.new.self) (sym address)
    (subst (λ (vs : List Version). SharersOf vs c.keep.new.self) kept (c.keep.ensures.first (versions_of table a items) asked))
