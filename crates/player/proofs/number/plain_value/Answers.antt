use Rattle.std.proofs.Common.{◌+◌, drop, refl, arith}
use Rattle.std.specs.Str.Parse.{digits_value}
use Rattle.player.proofs.Numbering.{digit-first, value-next, small-not, small_is}
use Rattle.player.proofs.number.plain_value.Goals as goal

pub overflow_sub-n : goal.overflow_sub-n
overflow_sub-n c = (digit-first c.args.part.now c.loop-b.b-index (omega arith) c.loop-b.invariant.2).0

pub returns-then-n-ge-ABOVE : goal.returns-then-n-ge-ABOVE
returns-then-n-ge-ABOVE c =
    let d = digit-first c.args.part.now c.loop-b.b-index (omega arith) c.loop-b.invariant.2 in
    small-not (digits_value 10 c.args.part.now) _ (drop (c.loop-b.b-index + 1) c.args.part.now)
    (value-next c.args.part.now c.loop-b.b-index c.loop-b.n _ (omega arith) d.0 d.1 refl c.loop-b.invariant.1) c.if-n-ge-ABOVE.true

pub loop-b-preserved : goal.loop-b-preserved
loop-b-preserved c =
    let d = digit-first c.args.part.now c.loop-b.b-index (omega arith) c.loop-b.invariant.2 in (
      c.if-n-ge-ABOVE.false,
      value-next c.args.part.now c.loop-b.b-index c.loop-b.n _ (omega arith) d.0 d.1 refl c.loop-b.invariant.1,
      d.2,
    )

pub returns : goal.returns
returns c = small_is c.args.part.now c.loop-b.b-index c.loop-b.n (omega arith) c.loop-b.invariant.0 c.loop-b.invariant.1
