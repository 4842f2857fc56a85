use Rattle.std.proofs.Common.{◌+◌, ◌-◌, ◌*◌, ◌<◌, ◌/◌, length, ◌∙◌, arith, rules}
use Rattle.std.proofs.lemmas.Bool.{true≢false}
use Rattle.memory.proofs.Packing.{length-words_of, put-word}
use Rattle.memory.proofs.byte.ByteMemoryMemory.write.Goals as goal

pub returns : goal.returns
returns c =
    let bs = c.args.self.now.row.now in
    let inside : c.args.a < length bs / 4 = omega (arith, length-words_of bs) in
    let put = put-word bs c.copy_from_slice.new.self c.args.a (4 * c.args.a + 4 - 4 * c.args.a) c.args.w inside (omega arith) (omega arith) (c.copy_from_slice.ensures.after ∙ c.to_le_bytes.ensures) in
    record { answer = search rules; row = put.row; refused = λ no. absurd (true≢false no); words = put.words; beside = put.beside }
