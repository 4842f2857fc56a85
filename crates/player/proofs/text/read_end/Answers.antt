use Rattle.std.proofs.Common.{◌≡◌, rules, sym, ◌∙◌}
use Rattle.std.specs.Option.{option_map}
use Rattle.player.specs.declared.token.Placed.{Placed}
use Rattle.player.specs.declared.token.Token.TheVariants.{LineEnd}
use Rattle.player.proofs.Following.{token-seen, end-missing}
use Rattle.player.proofs.text.read_end.Goals as goal

pub returns-in_default : goal.returns-in_default
returns-in_default c =
    let token = c.in_default.field-0 in
    let same : option_map (λ (p : Placed). p.token) c.next_token.result ≡ c.map.result = search rules in
    let other : token ≡ LineEnd → ⊥ = search rules in
    let seen = token-seen c.next_token.result token (same ∙ c.in_default.is) in
    record {
      end = end-missing c.args.tokens.now.at seen.0 c.args.tokens.now.rest.now token c.requires other (sym seen.1 ∙ c.next_token.ensures.token);
      line = tt;
      place = c.next_token.ensures.place;
    }
