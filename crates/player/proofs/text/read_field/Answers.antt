use Rattle.std.proofs.Common.{◌≡◌, ap, rules, sym, ◌∙◌}
use Rattle.std.specs.Option.{option_map}
use Rattle.player.specs.declared.token.Placed.{Placed}
use Rattle.player.specs.Tokens.{word_seen}
use Rattle.player.proofs.Following.{token-seen, field-taken}
use Rattle.player.proofs.text.read_field.Goals as goal

pub returns-clause-field : goal.returns-clause-field
returns-clause-field c =
    let same : option_map (λ (p : Placed). p.token) c.next_token.result ≡ c.map.result = search rules in
    let seen = token-seen c.next_token.result _ (same ∙ c.in-Some-Number.is) in
    field-taken _ seen.0 _ c.in-Some-Number.part.now _ _ c.number.result c.requires (sym seen.1 ∙ c.next_token.ensures.token)
    (ap word_seen c.in-Some-Number.field-0-is) c.next_token.ensures.text c.number.ensures
