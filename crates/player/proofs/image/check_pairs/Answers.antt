use Rattle.std.proofs.Common.{refl, sym, zero-add, arith}
use Rattle.std.proofs.lemmas.Grind.{common_steps}
use Rattle.player.proofs.Numbers.{length-pairs-le}
use Rattle.player.proofs.image.check_pairs.Goals as goal

pub loop-i-init-derived : goal.loop-i-init-derived
loop-i-init-derived c = let h = length-pairs-le c.args.pairs.now in grind (arith, common_steps)

pub loop-i-init : goal.loop-i-init
loop-i-init c =
    let s = c.enumerate-i-items.ensures in
    let few = length-pairs-le c.args.pairs.now in
    rw (c.into_iter-i-iterator.ensures.into_iter_gives, s.source, s.count)
    (record { few = omega arith; decided = refl; taken = sym (zero-add _); so_far = omega arith; inside = omega arith })
