use Rattle.std.proofs.Common.{◌∙◌}
use Rattle.memory.proofs.Packing.{found-word, no-word}
use Rattle.memory.proofs.byte.ByteMemory.word.Goals as goal

pub returns-in_err-bytes : goal.returns-in_err-bytes
returns-in_err-bytes c = c.from_residual.ensures ∙ no-word _ _ _ c.as_chunks.ensures.front_len c.in_err-bytes.ensures.lookup.3

pub returns : goal.returns
returns c =
    let at = c.in_ok-bytes.ensures.lookup in
    found-word _ _ _ _ _ c.as_chunks.ensures.front c.as_chunks.ensures.front_len at.3.0 at.1 c.from_le_bytes.ensures
