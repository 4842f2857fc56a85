use Rattle.std.proofs.Common.{ℕ, List, map, slice_index, Some, ap, ◌∙◌}
use Rattle.versions.specs.declared.version.Version.{Version}
use Rattle.versions.proofs.Sharing.{nearest-none, nearest-some}
use Rattle.versions.proofs.tasks.TaskTable.nearest.Goals as goal

pub returns-in_err-place : goal.returns-in_err-place
returns-in_err-place g c =
    let m = g.Self.TaskTable in
    let s = c.args.self.now in
    let f : ℕ → Version = λ q. m.table s q c.args.sharers.address in
    c.from_residual.ensures ∙ nearest-none f (m.processors s) c.args.k c.requires.bound (c.in_err-place.ensures (map f (m.processors s)) c.requires.sharers)

pub returns : goal.returns
returns g c =
    let m = g.Self.TaskTable in
    let s = c.args.self.now in
    let f : ℕ → Version = λ q. m.table s q c.args.sharers.address in
    ap Some (c.at.ensures ∙ ap (λ (ps : List ℕ). slice_index ps c.in_ok-place.place) c.order.ensures) ∙ nearest-some f (m.processors s) c.args.k c.in_ok-place.place c.requires.bound (c.in_ok-place.ensures (map f (m.processors s)) c.requires.sharers)
