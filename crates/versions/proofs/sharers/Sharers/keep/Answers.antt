use Rattle.std.proofs.Common.{◌-◌, ◌*◌, ◌+◌, ℕ, bit_and, refl, ap, ◌∙◌, arith}
use Rattle.std.proofs.lemmas.List.{length-take}
use Rattle.std.proofs.lemmas.Nat.{one_shl}
use Rattle.versions.specs.declared.version.Version.{Version}
use Rattle.versions.specs.Sharers.{bit_set}
use Rattle.versions.specs.Versions.{is_own}
use Rattle.versions.proofs.Sharing.{flag-kept}
use Rattle.versions.proofs.sharers.Sharers.keep.Goals as goal

pub returns-clause-first : goal.returns-clause-first
returns-clause-first c vs s =
    let n = c.args.n in
    let bits = c.args.self.now.shares in
    let mask = one_shl (2 * n) 32 (omega arith) in record {
      few = omega (arith, length-take n vs, s.few);
      marks = λ i. ap (λ (m : ℕ). bit_set (bit_and bits (m - 1)) (2 * i)) mask
          ∙ flag-kept (λ (x : Version). x.mark) refl (λ j. 2 * j) bits n vs (λ j h. omega (arith, h)) (λ j h. omega (arith, h)) s.marks i;
      owns = λ i. ap (λ (m : ℕ). bit_set (bit_and bits (m - 1)) (2 * i + 1)) mask
          ∙ flag-kept is_own refl (λ j. 2 * j + 1) bits n vs (λ j h. omega (arith, h)) (λ j h. omega (arith, h)) s.owns i;
    }
