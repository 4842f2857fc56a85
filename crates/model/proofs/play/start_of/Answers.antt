use Rattle.std.proofs.Common.{◌≤◌, length, sym, arith}
use Rattle.std.proofs.lemmas.List.{take_all}
use Rattle.model.proofs.play.start_of.Goals as goal

pub returns-then-bytes-lt-MOST_BYTES : goal.returns-then-bytes-lt-MOST_BYTES
returns-then-bytes-lt-MOST_BYTES c = let few : length c.args.bytes.now ≤ 32768 = omega (arith, c.if-bytes-lt-MOST_BYTES.true) in sym (take_all 32768 c.args.bytes.now few)
