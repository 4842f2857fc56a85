use Rattle.std.proofs.Common.{◌<◌, length, take, drop, sym, ap, ◌∙◌, arith}
use Rattle.versions.proofs.Slots.{moved-kept}
use Rattle.versions.proofs.processor_list.ProcessorList.remove_first.Goals as goal

pub invariant_of-self : goal.invariant_of-self
invariant_of-self c =
    let row = c.self.inside.row in
    let len = c.self.inside.len in
    let some : 0 < length (take len row) = omega (arith, c.requires, ap length c.self.view_is) in
    let m = moved-kept row len c.index-self-1.result c.index-self-2.result c.index-self-3.result c.default.result (sym c.default.ensures.1 ∙ c.default.ensures.2) some c.self.invariant.0 c.self.invariant.1 c.self.invariant.2 in
    (omega (arith, c.self.invariant.0), m.four, m.free)

pub returns : goal.returns
returns c =
    let row = c.self.inside.row in
    let len = c.self.inside.len in
    let some : 0 < length (take len row) = omega (arith, c.requires, ap length c.self.view_is) in
    let m = moved-kept row len c.index-self-1.result c.index-self-2.result c.index-self-3.result c.default.result (sym c.default.ensures.1 ∙ c.default.ensures.2) some c.self.invariant.0 c.self.invariant.1 c.self.invariant.2 in
    m.first ∙ ap (drop 1) c.self.view_is
