use Rattle.std.proofs.Common.{rules}
use Rattle.player.proofs.Numbers.{number-off}
use Rattle.player.proofs.image.first_number.Goals as goal

pub returns : goal.returns
returns c = number-off c.args.bytes.now c.from_le_bytes.result (search rules) c.from_le_bytes.ensures
