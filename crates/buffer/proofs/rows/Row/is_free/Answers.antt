use Rattle.std.proofs.Common.{not, ap, rules}
use Rattle.std.proofs.lemmas.Iterator.{YieldsList-from_slice}
use Rattle.std.proofs.lemmas.Iterator.Search.{any_from_yields_List}
use Rattle.versions.specs.Versions.{is_held}
use Rattle.buffer.proofs.rows.Row.is_free.Goals as goal
use borrow.Author.Tests.{tests}

pub returns : goal.returns
returns c = ap not (any_from_yields_List is_held _ _ _ c.any.ensures.ran (YieldsList-from_slice c.args.self.now.versions cc) (λ x b q k. search (rules, tests)))
