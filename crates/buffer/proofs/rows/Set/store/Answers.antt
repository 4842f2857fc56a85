use Rattle.std.proofs.Common.{◌≡◌, ◌%◌, List, get_or, set, sym, ap, ◌∙◌, rules}
use Rattle.versions.specs.declared.version.Version.{Version}
use Rattle.versions.specs.Versions.{with_store}
use Rattle.buffer.specs.declared.rows.Row.{Row}
use Rattle.buffer.specs.Sets.{no_row, in_row, in_rows, row_with}
use Rattle.buffer.proofs.Buffering.{taken-version}
use Rattle.buffer.proofs.rows.Set.store.Goals as goal

pub returns : goal.returns
returns c =
    let rs = c.args.self.now in
    let p = c.args.p in
    let a = c.args.a in
    let w = c.args.w in
    let j = c.row_for-j.result in
    let same : c.self.inside.rows ≡ rs = search rules in
    let v : c.with_store.result ≡ with_store w (in_rows rs p a) =
    c.with_store.ensures ∙ (ap (with_store w) c.version-version.ensures
    ∙ (ap (λ (x : List Row). with_store w (in_row (get_or x j no_row) p)) same
    ∙ ap (with_store w) (sym (taken-version (a % 16) rs p a j c.requires.good_set c.row_for-j.ensures)))) in
    record {
      place = j;
      takes = c.row_for-j.ensures;
      bound = c.put.ensures.bound;
      rows = ap (set c.self.inside.rows j) c.put.ensures.row
          ∙ (ap (λ (u : Version). set c.self.inside.rows j (row_with (get_or c.self.inside.rows j no_row) p a u)) v
          ∙ ap (λ (x : List Row). set x j (row_with (get_or x j no_row) p a (with_store w (in_rows rs p a)))) same);
    }
