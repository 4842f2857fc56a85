use Rattle.std.proofs.Common.{◌≡◌, ◌-◌, ◌<◌, ℕ, map, length, drop, sym, ap, ◌∙◌}
use Rattle.versions.specs.declared.version.Version.{Version}
use Rattle.std.proofs.lemmas.List.{drop-map, length-map}
use Rattle.versions.specs.Versions.{squashed_by}
use Rattle.versions.proofs.tasks.TaskTable.squashed.Goals as goal

pub returns-in-Some : goal.returns-in-Some
returns-in-Some g c =
    let m = g.Self.TaskTable in
    let s = c.args.self.now in
    let f : ℕ → Version = λ q. m.table s q c.args.sharers.address in
    let ps = m.processors s in
    let place = c.in-Some.place in
    let law : (place < length (map f ps)) × (squashed_by (drop c.args.k (map f ps)) ≡ length (map f ps) - place) = c.in-Some.ensures (map f ps) c.requires.sharers in
    let long : c.len.result ≡ length (map f ps) = c.len.ensures.value ∙ (ap length c.order.ensures ∙ sym (length-map ps f)) in
    ap (λ (n : ℕ). n - place) long ∙ (sym law.1 ∙ ap squashed_by (drop-map f c.args.k ps))

pub returns-in-None : goal.returns-in-None
returns-in-None g c =
    let m = g.Self.TaskTable in
    let s = c.args.self.now in
    let f : ℕ → Version = λ q. m.table s q c.args.sharers.address in
    sym (sym (ap squashed_by (drop-map f c.args.k (m.processors s))) ∙ c.in-None.ensures (map f (m.processors s)) c.requires.sharers)
