use Rattle.std.proofs.Common.{List, ap, ◌∙◌}
use Rattle.std.specs.Result.{result_ok}
use Rattle.snooping.specs.declared.cache.Cache.{Cache}
use Rattle.snooping.specs.Grid.{line_in}
use Rattle.snooping.specs.Snooping.{plain_in}
use Rattle.snooping.proofs.Laying.{line-at, line-asked}
use Rattle.snooping.proofs.store.SnoopingStore.line.Goals as goal

pub returns : goal.returns
returns g c =
    let plain = plain_in g.M.Memory.words c.args.self.now in
    line-asked plain c.args.p c.args.c c.in_ok-p.p c.in_ok-c.c c.line.result (c.in_ok-p.ensures.value ∙ ap result_ok c.try_from.ensures) c.in_ok-c.ensures
    (λ h l. c.line.ensures ∙ (ap (λ (cs : List Cache). line_in cs c.in_ok-p.p c.in_ok-c.c) c.requires.lines ∙ line-at plain c.in_ok-p.p c.in_ok-c.c h l))
