use Rattle.std.proofs.Common.{arith}
use Rattle.std.proofs.lemmas.Result.{err_from_is_err_and}
use Rattle.player.proofs.Numbers.{pairs-of-front}
use Rattle.player.proofs.Checking.{no-count, too_many, pairs-cut, pair-wrong, wrong-length, right-length}
use Rattle.player.proofs.image.check_image.Goals as goal

pub returns-in_default : goal.returns-in_default
returns-in_default c = rw c.at-wrong_length.ensures (no-count c.args.n c.args.image.now c.in_default.ensures)

pub returns-then-count-gt-MOST_PAIRS : goal.returns-then-count-gt-MOST_PAIRS
returns-then-count-gt-MOST_PAIRS c =
    rw c.at.ensures (too_many c.args.n c.in-Some.count _ c.args.image.now _ c.in-Some.ensures.0 c.in-Some.ensures.1 c.if-count-gt-MOST_PAIRS.true)

pub returns-in_default-split_at_checked : goal.returns-in_default-split_at_checked
returns-in_default-split_at_checked c =
    rw c.at-wrong_length.ensures
    (pairs-cut c.args.n c.in-Some.count _ c.args.image.now _ c.in-Some.ensures.0 c.in-Some.ensures.1 c.if-count-gt-MOST_PAIRS.false c.in_default-split_at_checked.ensures.cases)

pub returns-in_err-taken : goal.returns-in_err-taken
returns-in_err-taken c =
    let p = err_from_is_err_and c.from_residual.result c.from_residual.ensures.1 in
    let cut = c.in-Some-split_at_checked.ensures.cases in
    let wrong = rw (cut.1, pairs-of-front c.in-Some.count c.in-Some.rest.now cut.0) at c.in_err-taken.ensures.answer in
    rw (p.1, p.2)
    (pair-wrong c.args.n c.in-Some.count _ c.args.image.now _ c.in-Some.ensures.0 c.in-Some.ensures.1 c.if-count-gt-MOST_PAIRS.false cut.0 _ wrong)

pub returns-then-words-taken : goal.returns-then-words-taken
returns-then-words-taken c =
    let cut = c.in-Some-split_at_checked.ensures.cases in
    let right = rw (cut.1, pairs-of-front c.in-Some.count c.in-Some.rest.now cut.0) at c.in_ok-taken.ensures.answer in
    rw c.at-wrong_length.ensures
    (wrong-length c.args.n c.in-Some.count _ c.args.image.now _ c.in-Some.ensures.0 c.in-Some.ensures.1 c.if-count-gt-MOST_PAIRS.false cut.0 c.in_ok-taken.taken right
    (λ e. c.if-words-taken.true (omega (arith, e, cut.4))))

pub returns : goal.returns
returns c =
    let cut = c.in-Some-split_at_checked.ensures.cases in
    let right = rw (cut.1, pairs-of-front c.in-Some.count c.in-Some.rest.now cut.0) at c.in_ok-taken.ensures.answer in
    right-length c.args.n c.in-Some.count _ c.args.image.now _ c.in-Some.ensures.0 c.in-Some.ensures.1 c.if-count-gt-MOST_PAIRS.false cut.0 c.in_ok-taken.taken right
    (omega (arith, c.if-words-taken.false, cut.4))
