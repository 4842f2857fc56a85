use Rattle.std.proofs.Common.{◌≤◌, length, ◌∙◌, arith}
use Rattle.memory.specs.Bytes.{words_of}
use Rattle.player.proofs.Numbers.{length-words_of}
use Rattle.player.proofs.Checking.{first_taken}
use Rattle.player.proofs.Laying.{first-inside, first-laid, still-inside}
use Rattle.player.proofs.image.lay_pairs.Goals as goal

pub loop-pair-preserved : goal.loop-pair-preserved
loop-pair-preserved g c =
    let p = c.in-Some.pair in
    let is = c.in-Some.ensures.steps in
    let k = c.loop-pair.invariant in
    let put = c.lay_pair-left.ensures in
    let vs = words_of c.loop-pair.left.now in
    let inside = first-inside p _ _ is _ k.inside in
    let some : p.len ≤ length vs = omega (arith, length-words_of c.loop-pair.left.now, put.bytes) in
    record {
      sound = put.kept;
      laid = first-laid p _ _ is _ _ _ _ _ k.laid put.after put.rest;
      inside = still-inside _ _ vs _ p.len _ put.after inside.0 some inside.1;
      some = omega (arith, k.some, first_taken p _ _ is, put.bytes);
      beside = put.beside ∙ k.beside;
    }
