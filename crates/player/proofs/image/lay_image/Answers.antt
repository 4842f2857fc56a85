use Rattle.std.proofs.Common.{arith}
use Rattle.player.proofs.Numbers.{pairs-of-front, words-after-pairs}
use Rattle.player.proofs.Checking.{has-count, accepted}
use Rattle.player.proofs.Laying.{image-laid}
use Rattle.player.proofs.image.lay_image.Goals as goal

pub unreachable-requires : goal.unreachable-requires
unreachable-requires g c = has-count _ _ c.requires.accepted c.in_default.ensures

pub split_at-requires : goal.split_at-requires
split_at-requires g c = (accepted _ _ _ _ _ c.in-Some.ensures.0 c.in-Some.ensures.1 c.requires.accepted).pairs

pub lay_pairs-requires : goal.lay_pairs-requires
lay_pairs-requires g c =
    let image = accepted _ _ _ _ _ c.in-Some.ensures.0 c.in-Some.ensures.1 c.requires.accepted in
    let e = c.split_at.ensures in
    rw (e.front, pairs-of-front c.in-Some.count c.in-Some.rest.now image.pairs)
    (record { sound = c.requires.sound; inside = image.inside; pairs_in_bounds = omega (arith, image.words, e.back_len) })

pub returns-clause-after : goal.returns-clause-after
returns-clause-after g c =
    let image = accepted _ _ _ _ _ c.in-Some.ensures.0 c.in-Some.ensures.1 c.requires.accepted in
    let rest = c.in-Some.rest.now in
    let e = c.split_at.ensures in
    let laid = rw (e.front, e.back, pairs-of-front c.in-Some.count rest image.pairs, words-after-pairs c.in-Some.count rest image.pairs) at c.lay_pairs.ensures.after in
    image-laid _ _ _ _ _ c.in-Some.ensures.0 c.requires.accepted laid
