use Rattle.std.proofs.Common.{None, Some, ap, ◌∙◌, arith}
use Rattle.std.proofs.lemmas.List.{length-map}
use Rattle.versions.specs.Sharers.{versions_of}
use Rattle.versions.proofs.Sharing.{holds-inside}
use Rattle.snooping.specs.Caches.{processors_of, table_of}
use Rattle.snooping.proofs.Relinking.{holder-from}
use Rattle.snooping.proofs.caches.Caches.next_holder.Goals as goal

pub at-requires : goal.at-requires
at-requires c =
    let s = c.args.self.now in
    let a = c.args.sharers.address in
    let vs = versions_of (table_of s) a (processors_of s) in
    let first = c.in_ok-place.ensures vs c.requires.sharers in
    omega (arith, holds-inside vs c.in_ok-place.place first.1, length-map (processors_of s) (λ q. table_of s q a))

pub returns-in_err-place : goal.returns-in_err-place
returns-in_err-place c =
    let s = c.args.self.now in
    let a = c.args.sharers.address in
    c.from_residual.ensures ∙ holder-from (table_of s) a (processors_of s) c.args.k None (c.in_err-place.ensures (versions_of (table_of s) a (processors_of s)) c.requires.sharers)

pub returns : goal.returns
returns c =
    let s = c.args.self.now in
    let a = c.args.sharers.address in
    let j = c.in_ok-place.place in
    ap Some (c.number.ensures.value ∙ c.at.ensures) ∙ holder-from (table_of s) a (processors_of s) c.args.k (Some j) (c.in_ok-place.ensures (versions_of (table_of s) a (processors_of s)) c.requires.sharers)
