use Rattle.std.proofs.Common.{rules}
use Rattle.player.proofs.Numbers.{pair-off}
use Rattle.player.proofs.image.first_pair.Goals as goal

pub returns : goal.returns
returns c =
    pair-off c.args.bytes.now c.from_le_bytes-offset.result c.from_le_bytes-len.result (search rules) c.from_le_bytes-offset.ensures
    c.from_le_bytes-len.ensures
