use Rattle.std.proofs.Common.{codes, refl, arith, rules}
use Rattle.std.proofs.lemmas.Slice.Eq.{text_from_reads}
use Rattle.player.proofs.verb.Verb.named.Goals as goal

pub returns-in-squash : goal.returns-in-squash
returns-in-squash c =
    rw (text_from_reads c.args.word.now (codes "squash") (omega arith) (search rules)) refl

pub returns-in-commit : goal.returns-in-commit
returns-in-commit c =
    rw (text_from_reads c.args.word.now (codes "commit") (omega arith) (search rules)) refl

pub returns-in-replace : goal.returns-in-replace
returns-in-replace c =
    rw (text_from_reads c.args.word.now (codes "replace") (omega arith) (search rules)) refl
