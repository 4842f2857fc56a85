use Rattle.std.proofs.Common.{ℕ, ◌+◌, ◌≡◌, take, subst, rules, tests}
use Rattle.versions.specs.declared.version.Version.{Version}
use Rattle.versions.specs.Tables.{last_that}
use Rattle.versions.specs.Versions.{is_own}
use Rattle.versions.proofs.Stepping.{nearest-own}
use Rattle.buffer.specs.Tasks.{table_of}
use Rattle.buffer.proofs.tasks.Tasks.nearest_own.Goals as goal

pub returns : goal.returns
returns c =
    let f : ℕ → Version = λ q. table_of c.args.self.now q c.args.a in
    nearest-own f (take (c.args.k + 1) c.args.self.now.order) c.nearest.result c.and_then.result
    (subst (λ (b : ℕ). c.nearest.result ≡ last_that (λ q. is_own (table_of c.args.self.now q b)) (take (c.args.k + 1) c.args.self.now.order)) c.sharers.ensures.address c.nearest.ensures)
    c.and_then.ensures (λ q m. search (rules, tests))
