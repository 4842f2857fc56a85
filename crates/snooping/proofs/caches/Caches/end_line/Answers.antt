use Rattle.std.proofs.Common.{ℕ, ◌%◌, ◌<◌, ap, ◌∙◌, arith}
use Rattle.snooping.specs.Caches.{lines_in}
use Rattle.snooping.specs.Grid.{with_line}
use Rattle.snooping.specs.Lines.{blank}
use Rattle.snooping.proofs.Grids.{line-changed}
use Rattle.snooping.proofs.caches.Caches.end_line.Goals as goal

pub returns-clause-lines : goal.returns-clause-lines
returns-clause-lines c =
    let s = c.args.self.now in
    let a = c.args.a in
    let low : a % 16 < 16 = omega arith in
    line-changed s.list c.index.result c.end.new.self s.wide c.index.ensures.bound (a % 16) _ low c.end.ensures
    ∙ ap (λ (r : ℕ). with_line (lines_in s) r (a % 16) blank) c.index.ensures.value
