use Rattle.std.proofs.Common.{ℕ, ◌||◌, eqb, ap, ◌∙◌}
use Rattle.versions.proofs.ClassSets.{set_in, set-inserted}
use Rattle.versions.proofs.class_set.ClassSet.insert.Goals as goal

pub returns : goal.returns
returns c d =
    let n = c.args.self.now.bits in
    set-inserted n c.index.result d c.index.ensures.bound ∙ ap (λ (i : ℕ). eqb d i || set_in n d) c.index.ensures.value
