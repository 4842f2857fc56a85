use Rattle.std.proofs.Common.{◌*◌, ℕ, eqb, ap, ◌∙◌}
use Rattle.std.proofs.lemmas.Nat.Bits.{shr_and_one}
use Rattle.versions.proofs.sharers.Sharers.is_marked.Goals as goal

pub returns : goal.returns
returns c vs s = ap (λ (x : ℕ). eqb x 1) (shr_and_one c.args.self.shares (2 * c.args.place)) ∙ s.marks c.args.place
