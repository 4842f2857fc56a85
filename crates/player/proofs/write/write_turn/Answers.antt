use Rattle.std.proofs.Common.{◌≡◌, [], ◌∷◌, string_bytes, sym, ap, ◌∙◌, arith, rules}
use Rattle.std.proofs.lemmas.List.{append-nil}
use Rattle.player.specs.Text.{text_read}
use Rattle.player.specs.Writing.{line_of}
use Rattle.player.proofs.RoundTrip.{text-back}
use Rattle.player.proofs.write.write_turn.Goals as goal

pub returns-clause-back : goal.returns-clause-back
returns-clause-back c =
    let t = c.args.turn in
    let text : string_bytes c.write_line.new.text ≡ line_of t = search rules in
    λ free room. ap (text_read free) (text ∙ sym (append-nil (line_of t))) ∙ text-back free (t ∷ []) (c.write_line.ensures.small, tt) (omega (arith, room))
