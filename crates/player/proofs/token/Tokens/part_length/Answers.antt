use Rattle.std.proofs.Common.{eqb, ◌||◌, ◌∙◌, rules}
use borrow.Author.Tests.{tests}
use Rattle.std.proofs.lemmas.Iterator.{YieldsList-from_slice}
use Rattle.std.proofs.lemmas.Iterator.Search.{position_from_yields_List}
use Rattle.player.proofs.Splitting.{part-position}
use Rattle.player.proofs.token.Tokens.part_length.Goals as goal

pub returns-clause-value : goal.returns-clause-value
returns-clause-value c =
    c.unwrap_or.ensures
    ∙ part-position c.args.self.now.rest.now c.position.result
    (position_from_yields_List (λ b. eqb b 32 || eqb b 10) _ _ _ c.position.ensures.ran (YieldsList-from_slice c.args.self.now.rest.now cc) (λ x b q k. search (rules, tests)))
