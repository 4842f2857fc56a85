use Rattle.std.proofs.Common.{[], get_or, slice_get, ap, ◌∙◌, arith}
use Rattle.std.proofs.lemmas.List.{get_or_default}
use Rattle.memory.specs.Bytes.{words_of}
use Rattle.memory.proofs.Packing.{found-word}
use Rattle.player.proofs.Laying.{put_next}
use Rattle.player.proofs.Numbers.{length-words_of, words_of-take, words_of-drop}
use Rattle.player.proofs.image.lay_pair.Goals as goal

pub loop-k-preserved : goal.loop-k-preserved
loop-k-preserved g c =
    let m = g.M.Memory in
    let k = c.loop-k.k in
    let words = c.args.words.now in
    let chunks = c.as_chunks.result.0.now in
    let i = c.loop-k.invariant in
    let found = found-word c.split_at.result.0.now chunks (get_or chunks k []) k c.from_le_bytes.result c.as_chunks.ensures.front c.as_chunks.ensures.front_len c.loop-k-test.true
    (get_or_default chunks k [] (get_or chunks k []) c.loop-k-test.true) c.from_le_bytes.ensures in
    let mine = ap words_of c.split_at.ensures.front ∙ words_of-take c.args.pair.len words c.requires.len_in_bounds in (
      c.write.ensures.kept,
      put_next (m.words c.args.memory.now) (m.words c.loop-k.memory) (m.words c.write.new.self) (words_of words) c.args.pair.offset c.args.pair.len k c.from_le_bytes.result
          (omega (arith, c.loop-k-test.true, c.as_chunks.ensures.front_len, c.split_at.ensures.front_len)) (omega (arith, length-words_of words, c.requires.len_in_bounds)) c.requires.pair_in_bounds i.1
          (found ∙ ap (λ xs. slice_get xs k) mine) c.write.ensures.after,
      c.write.ensures.beside ∙ i.2,
    )

pub returns-clause-rest : goal.returns-clause-rest
returns-clause-rest g c = ap words_of c.split_at.ensures.back ∙ words_of-drop c.args.pair.len c.args.words.now c.requires.len_in_bounds
