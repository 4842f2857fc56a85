use Rattle.std.proofs.Common.{◌≡◌, ◌%◌, List, get_or, sym, ap, ◌∙◌, rules}
use Rattle.buffer.specs.declared.rows.Row.{Row}
use Rattle.buffer.specs.Sets.{no_row, in_row}
use Rattle.buffer.proofs.Buffering.{placed-version, placed-none}
use Rattle.buffer.proofs.rows.Set.version.Goals as goal

pub returns-in-Some : goal.returns-in-Some
returns-in-Some c =
    let rs = c.args.self.now in
    let same : c.self.inside.rows ≡ rs = search rules in
    c.version.ensures ∙ (ap (λ (x : List Row). in_row (get_or x c.in-Some.j no_row) c.args.p) same
    ∙ sym (placed-version (c.args.a % 16) rs c.args.p c.args.a c.in-Some.j c.requires c.in-Some.ensures))

pub returns-in-None : goal.returns-in-None
returns-in-None c = c.none.ensures ∙ sym (placed-none (c.args.a % 16) c.args.self.now c.args.p c.args.a c.requires c.in-None.ensures)
