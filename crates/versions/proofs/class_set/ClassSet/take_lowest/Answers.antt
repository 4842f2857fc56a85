use Rattle.std.proofs.Common.{◌≡◌, ℕ, not, ◌&&◌, eqb, sym, ap, ◌∙◌, subst, arith}
use Rattle.versions.specs.ClassSets.{Lowest}
use Rattle.versions.proofs.ClassSets.{lowest, lowest_is, set_in, set-lowered, lowered-less}
use Rattle.versions.proofs.class_set.ClassSet.take_lowest.Goals as goal

pub returns-clause-lowest : goal.returns-clause-lowest
returns-clause-lowest c =
    let n = c.args.self.now.bits in
    let law = lowest_is n (omega (arith, c.if-self-eq0.false)) (omega arith) in
    let same : c.of.result ≡ lowest n = omega (arith, c.of.ensures, law.0) in
    subst (Lowest c.args.self.now) (sym same) (record { within = law.0; inside = law.1; below = law.2 })

pub returns-clause-rest : goal.returns-clause-rest
returns-clause-rest c d low =
    let n = c.args.self.now.bits in
    let law = lowest_is n (omega (arith, c.if-self-eq0.false)) (omega arith) in
    let same : c.of.result ≡ lowest n = omega (arith, c.of.ensures, law.0) in
    set-lowered n (lowest n) d law.1 law.2 ∙ ap (λ (i : ℕ). not (eqb d i) && set_in n d) (sym same)

pub returns-clause-fewer : goal.returns-clause-fewer
returns-clause-fewer c = lowered-less c.args.self.now.bits (omega (arith, c.if-self-eq0.false))
