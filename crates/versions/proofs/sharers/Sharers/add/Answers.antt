use Rattle.std.proofs.Common.{◌≡◌, ℕ, ◌+◌, ◌*◌, ◌^◌, ◌%◌, bit_or, refl, sym, ap, ◌∙◌, arith}
use Rattle.std.proofs.lemmas.List.{length_push}
use Rattle.versions.specs.declared.version.Version.{Version}
use Rattle.versions.specs.Sharers.{bit_set}
use Rattle.versions.specs.Versions.{is_own}
use Rattle.versions.proofs.Sharing.{flag-more, share-mark, share-own}
use Rattle.versions.proofs.sharers.Sharers.add.Goals as goal

plain : (j : ℕ) → 2 * j + 0 ≡ 2 * j
plain j = omega arith

pub returns-clause-more : goal.returns-clause-more
returns-clause-more c vs v s long is =
    let k = c.args.k in
    let n = c.args.self.now.shares in record {
      few = omega (arith, length_push vs v, long);
      marks = λ i. ap (bit_set (bit_or n (c.args.share * 2 ^ (2 * k) % 4294967296))) (sym (plain i))
          ∙ flag-more (λ (x : Version). x.mark) refl 0 (omega arith) share-mark n k c.args.share vs v (omega arith) (omega arith) long is (λ j. ap (bit_set n) (plain j) ∙ s.marks j) i;
      owns = flag-more is_own refl 1 (omega arith) share-own n k c.args.share vs v (omega arith) (omega arith) long is s.owns;
    }
