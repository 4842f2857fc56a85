use Rattle.std.proofs.Common.{◌≡◌, ℕ, ◌≤◌, ◌<◌, length, take, set, ap, ◌∙◌, arith, length-set}
use Rattle.versions.specs.Copies.{len_back}
use Rattle.versions.proofs.Slots.{first-kept, rest-free, free-from}
use Rattle.versions.proofs.processor_list.ProcessorList.truncate.Goals as goal

pub loop-i-preserved : goal.loop-i-preserved
loop-i-preserved c =
    let k = c.args.k in
    let i = c.loop-i.i in
    let items = c.loop-i.slot-items in
    let x = c.kept.result in
    let d = c.slot-item.result in
    let within : i < length items = omega (arith, c.loop-i.invariant.four, c.loop-i-test.true) in record {
      four = length-set items i x ∙ c.loop-i.invariant.four;
      first = ap (λ (y : ℕ). take k (set items i y)) c.kept.ensures ∙ (first-kept k i items d ∙ c.loop-i.invariant.first);
      rest = rest-free k i x d items within c.kept.ensures c.loop-i.invariant.rest;
    }

pub invariant_of-self : goal.invariant_of-self
invariant_of-self c =
    let k = c.args.k in
    let items = c.loop-i.slot-items in
    let many : length (take c.self.inside.len c.self.inside.row) ≡ c.self.inside.len = len_back c.self.inside.row c.self.inside.len c.self.invariant.0 c.self.invariant.1 in
    let few : k ≤ 4 = omega (arith, c.requires, many, ap length c.self.view_is, c.self.invariant.0) in
    (few, c.loop-i.invariant.four, free-from k items few c.loop-i.invariant.four (λ j low high. c.loop-i.invariant.rest j low (omega (arith, high, c.loop-i-test.false))))
