use Rattle.std.proofs.Common.{◌≡◌, ℕ, List, get_or, length, Ok, sym, ap, ◌∙◌, subst, rules}
use Rattle.player.specs.Image.{pairs_of, image_words, load_answer, HoldsPairs}
use Rattle.player.proofs.ReadingBack.{loaded-holds, loaded-outside}
use Rattle.player.proofs.image.load_image.Goals as goal

pub returns-clause-laid : goal.returns-clause-laid
returns-clause-laid g c =
    let ws = g.M.Memory.words c.args.memory.now in
    let bytes = c.args.image.now in
    let accepted : Ok tt ≡ load_answer (length ws) bytes = search rules in
    λ _. subst (HoldsPairs (pairs_of bytes) (image_words bytes)) (sym c.lay_image.ensures.after) (loaded-holds ws bytes accepted)

pub returns-clause-outside : goal.returns-clause-outside
returns-clause-outside g c =
    let ws = g.M.Memory.words c.args.memory.now in
    let bytes = c.args.image.now in
    let accepted : Ok tt ≡ load_answer (length ws) bytes = search rules in
    λ a h. ap (λ (xs : List ℕ). get_or xs a 0) c.lay_image.ensures.after ∙ loaded-outside ws bytes accepted a h
