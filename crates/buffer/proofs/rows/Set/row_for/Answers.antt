use Rattle.std.proofs.Common.{rules, arith}
use Rattle.buffer.proofs.Buffering.{some-row, row-fits}
use Rattle.buffer.proofs.rows.Set.row_for.Goals as goal

pub unwrap-requires : goal.unwrap-requires
unwrap-requires c = some-row c.args.self.now c.args.p c.args.a c.requires.good_set (omega (arith, c.index.ensures.value, c.index.ensures.bound)) c.requires.mine c.address_place.result c.address_place.ensures c.or_else.result (search rules)

pub returns : goal.returns
returns c = row-fits c.args.self.now c.args.p c.args.a c.requires.good_set (omega (arith, c.index.ensures.value, c.index.ensures.bound)) c.requires.mine c.address_place.result c.address_place.ensures c.unwrap.result (search rules)
