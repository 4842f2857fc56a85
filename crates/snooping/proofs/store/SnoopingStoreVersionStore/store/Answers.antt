use Rattle.std.proofs.Common.{◌≡◌, ℕ, suc, ◌+◌, ◌-◌, map, take, subst, ◌%◌, true, false, not, ◌&&◌, List, length, drop, is_some, Err, sym, refl, ap, ◌∙◌, add-one, arith}
use Rattle.std.proofs.lemmas.Result.{err_from_is_err_and}
use Rattle.std.proofs.lemmas.List.{length-take-le, take-map}
use Rattle.versions.specs.declared.version.Version.{Version}
use Rattle.versions.specs.declared.turn.Turn.TheVariants.{Store}
use Rattle.versions.specs.Orders.{place_in, Apart}
use Rattle.versions.specs.Sharers.{SharersOf, versions_of}
use Rattle.versions.specs.Tables.{Table, without_all, access_place, with_processor}
use Rattle.versions.specs.Versions.{is_own, squashed_by}
use Rattle.versions.proofs.Judging.{load-agrees, ok-access, at-processor}
use Rattle.versions.proofs.Ordering.{few, apart-take}
use Rattle.versions.proofs.Serving.{hit-is, kept-version}
use Rattle.versions.proofs.Tabling.{placed, place-take, squashes-le}
use Rattle.snooping.specs.declared.line.Line.{Line}
use Rattle.snooping.specs.declared.state.LineEvent.TheVariants.{Store as StoreLine}
use Rattle.snooping.specs.Caches.{lines_in, processors_of, table_of}
use Rattle.snooping.specs.Grid.{Linked, with_line, relinked}
use Rattle.snooping.specs.Lines.{version_at, with_taken}
use Rattle.snooping.specs.Report.{reached, powers}
use Rattle.snooping.proofs.Holders.{same-column, take-place}
use Rattle.snooping.proofs.Keeping.{laid-linked}
use Rattle.snooping.proofs.Snooped.{took, took-refused, sound-pointing, turn-store-hit, turn-store-miss, after-cut, hit-parts}
use Rattle.snooping.proofs.store.SnoopingStoreVersionStore.store.Goals as goal

-- how many tasks a store hits, by the sharers' address
hit-at : (table : Table) (ps : List ℕ) (k a n b : ℕ) → b ≡ a → n ≡ squashed_by (map (λ q. table q b) (drop (k + 1) ps)) → n ≡ squashed_by (map (λ q. table q a) (drop (k + 1) ps))
hit-at table ps k a n b same e = e ∙ ap (λ (i : ℕ). squashed_by (map (λ q. table q i) (drop (k + 1) ps))) same

pub returns-in_err-p : goal.returns-in_err-p
returns-in_err-p g c =
    let m = g.M.Memory in
    let s = c.args.self.now in
    let q = err_from_is_err_and c.from_residual.result c.from_residual.ensures.1 in
    took-refused m.words m.sound m.spare s (Store c.args.p c.args.a c.args.w) c.from_residual.result c.in_err-p.field-0.0 c.args.p (access_place (length (m.words s.memory)) (processors_of s.caches) (table_of s.caches) c.args.p c.args.a) c.requires (load-agrees (m.words s.memory) (processors_of s.caches) (table_of s.caches) c.args.p c.args.a)
    (c.in_err-p.ensures ∙ ap (λ (n : ℕ). with_processor c.args.p (access_place n (processors_of s.caches) (table_of s.caches) c.args.p c.args.a)) c.size.ensures) (q.1 ∙ ap Err q.2)

pub returns-then-takes_store : goal.returns-then-takes_store
returns-then-takes_store g c =
    let m = g.M.Memory in
    let s = c.args.self.now in
    let at = at-processor c.args.p c.in_ok-p.p c.in_ok-p.k (λ (p : ℕ). access_place c.size.result (processors_of s.caches) (table_of s.caches) p c.args.a) c.in_ok-p.ensures in
    let line = c.line-line.ensures ∙ ap (lines_in s.caches c.in_ok-p.p) c.of.ensures in
    let own = is_own (table_of s.caches c.in_ok-p.p c.args.a) in
    let next = (lines_in s.caches c.in_ok-p.p (c.args.a % 16)).next in
    let test : (own && not (is_some next)) ≡ true = ap (λ (x : Line). is_own (version_at x c.args.a) && not (is_some x.next)) (sym line) ∙ (sym c.takes_store.ensures ∙ c.if-takes_store.true) in
    let parts = hit-parts own next test in
    took m.words m.sound m.spare s (λ (p : ℕ). Store p c.args.a c.args.w) c.args.p c.in_ok-p.p 0 _ at.0
    (turn-store-hit m.words s c.requires c.in_ok-p.p c.args.a c.args.w c.in_ok-p.k
    (processors_of c.take.new.self) c.take.new.self.list c.quiet-self.result
    (at.1 ∙ ap (λ (n : ℕ). access_place n (processors_of s.caches) (table_of s.caches) c.in_ok-p.p c.args.a) c.size.ensures)
    parts.0 parts.1 c.take.ensures.order c.take.ensures.lines c.take.new.self.wide c.quiet-self.ensures) c.requires.memory refl

pub overflow_add-later : goal.overflow_add-later
overflow_add-later g c =
    let s = c.args.self.now in
    let ps = processors_of s.caches in
    let at = at-processor c.args.p c.in_ok-p.p c.in_ok-p.k (λ (p : ℕ). access_place c.size.result ps (table_of s.caches) p c.args.a) c.in_ok-p.ensures in
    omega (arith, (placed ps c.in_ok-p.p c.in_ok-p.k (ok-access c.size.result ps (table_of s.caches) c.in_ok-p.p c.args.a c.in_ok-p.k at.1).0).within, few ps c.requires.apart)

pub invalidated-mask-requires-clause-bound : goal.invalidated-mask-requires-clause-bound
invalidated-mask-requires-clause-bound g c =
    let s = c.args.self.now in
    let ps = processors_of s.caches in
    let at = at-processor c.args.p c.in_ok-p.p c.in_ok-p.k (λ (p : ℕ). access_place c.size.result ps (table_of s.caches) p c.args.a) c.in_ok-p.ensures in
    omega (arith, (placed ps c.in_ok-p.p c.in_ok-p.k (ok-access c.size.result ps (table_of s.caches) c.in_ok-p.p c.args.a c.in_ok-p.k at.1).0).within)

pub squashed-hit-requires-clause-bound : goal.squashed-hit-requires-clause-bound
squashed-hit-requires-clause-bound g c =
    let s = c.args.self.now in
    let ps = processors_of s.caches in
    let at = at-processor c.args.p c.in_ok-p.p c.in_ok-p.k (λ (p : ℕ). access_place c.size.result ps (table_of s.caches) p c.args.a) c.in_ok-p.ensures in
    omega (arith, (placed ps c.in_ok-p.p c.in_ok-p.k (ok-access c.size.result ps (table_of s.caches) c.in_ok-p.p c.args.a c.in_ok-p.k at.1).0).within)

pub cut_last-requires-clause-bound : goal.cut_last-requires-clause-bound
cut_last-requires-clause-bound g c =
    let s = c.args.self.now in
    let ps = processors_of s.caches in
    let at = at-processor c.args.p c.in_ok-p.p c.in_ok-p.k (λ (p : ℕ). access_place c.size.result ps (table_of s.caches) p c.args.a) c.in_ok-p.ensures in
    let place = (ok-access c.size.result ps (table_of s.caches) c.in_ok-p.p c.args.a c.in_ok-p.k at.1).0 in
    omega (arith, squashes-le (table_of s.caches) ps c.in_ok-p.p c.in_ok-p.k c.args.a place, hit-is (table_of s.caches) ps c.in_ok-p.k c.args.a c.squashed-hit.result (hit-at (table_of s.caches) ps c.in_ok-p.k c.args.a c.squashed-hit.result c.sharers-sharers.result.address c.sharers-sharers.ensures.address c.squashed-hit.ensures))

pub cut_last-requires-clause-pointing : goal.cut_last-requires-clause-pointing
cut_last-requires-clause-pointing g c = sound-pointing g.M.Memory.words c.args.self.now c.requires

pub overflow_cast-result : goal.overflow_cast-result
overflow_cast-result g c =
    let s = c.args.self.now in
    let ps = processors_of s.caches in
    let at = at-processor c.args.p c.in_ok-p.p c.in_ok-p.k (λ (p : ℕ). access_place c.size.result ps (table_of s.caches) p c.args.a) c.in_ok-p.ensures in
    let place = (ok-access c.size.result ps (table_of s.caches) c.in_ok-p.p c.args.a c.in_ok-p.k at.1).0 in
    omega (arith, squashes-le (table_of s.caches) ps c.in_ok-p.p c.in_ok-p.k c.args.a place, hit-is (table_of s.caches) ps c.in_ok-p.k c.args.a c.squashed-hit.result (hit-at (table_of s.caches) ps c.in_ok-p.k c.args.a c.squashed-hit.result c.sharers-sharers.result.address c.sharers-sharers.ensures.address c.squashed-hit.ensures), few ps c.requires.apart)

pub take_and_link-requires-clause-apart : goal.take_and_link-requires-clause-apart
take_and_link-requires-clause-apart g c =
    let ps = processors_of c.args.self.now.caches in
    subst Apart (sym c.cut_last.ensures.order) (apart-take (length ps - c.squashed-hit.result) ps c.requires.apart)

pub take_and_link-requires-clause-place : goal.take_and_link-requires-clause-place
take_and_link-requires-clause-place g c =
    let s = c.args.self.now in
    let ps = processors_of s.caches in
    let at = at-processor c.args.p c.in_ok-p.p c.in_ok-p.k (λ (p : ℕ). access_place c.size.result ps (table_of s.caches) p c.args.a) c.in_ok-p.ensures in
    let place = (ok-access c.size.result ps (table_of s.caches) c.in_ok-p.p c.args.a c.in_ok-p.k at.1).0 in
    let hit = hit-is (table_of s.caches) ps c.in_ok-p.k c.args.a c.squashed-hit.result (hit-at (table_of s.caches) ps c.in_ok-p.k c.args.a c.squashed-hit.result c.sharers-sharers.result.address c.sharers-sharers.ensures.address c.squashed-hit.ensures) in
    ap (λ (l : List ℕ). place_in l c.in_ok-p.p) c.cut_last.ensures.order
    ∙ place-take (length ps - c.squashed-hit.result) ps c.in_ok-p.p c.in_ok-p.k place (omega (arith, hit, squashes-le (table_of s.caches) ps c.in_ok-p.p c.in_ok-p.k c.args.a place))

pub take_and_link-requires-clause-sharers : goal.take_and_link-requires-clause-sharers
take_and_link-requires-clause-sharers g c =
    let m = g.M.Memory in
    let s = c.args.self.now in
    let ps = processors_of s.caches in
    let table = table_of s.caches in
    let n = c.squashed-hit.result in
    let i = length ps - n in
    let new = c.cut_last.new.self in
    let b = c.sharers-sharers.result.address in
    let cut = after-cut m.words s c.requires n new.list c.cut_last.ensures.none c.cut_last.ensures.some in
    let count : c.len.result ≡ i = c.len.ensures.value ∙ (ap length (c.order.ensures ∙ c.cut_last.ensures.order) ∙ length-take-le i ps (omega arith)) in
    let same : versions_of table b (take i ps) ≡ versions_of (table_of new) b (take i ps) =
    same-column (λ r. table r b) (λ r. without_all table (drop i ps) r b) (take i ps)
    (λ r j at. sym (kept-version (m.words s.memory) ps table c.requires.apart c.requires.fits r j i b (take-place i ps r j at).0 (take-place i ps r j at).1 b)) ∙ ap (λ (t : Table). versions_of t b (take i ps)) (sym cut.1) in
    let kept : take c.len.result (versions_of table b ps) ≡ versions_of (table_of new) b (processors_of new) =
    ap (λ (j : ℕ). take j (versions_of table b ps)) count ∙ (take-map (λ q. table q b) i ps ∙ (same ∙ ap (versions_of (table_of new) b) (sym c.cut_last.ensures.order))) in
    subst (λ (d : ℕ). SharersOf (versions_of (table_of new) d (processors_of new)) c.keep.new.self) (sym c.keep.ensures.address)
    (subst (λ (vs : List Version). SharersOf vs c.keep.new.self) kept (c.keep.ensures.first (versions_of table b ps) c.sharers-sharers.ensures.tasks))

pub take_and_link-requires-clause-linked : goal.take_and_link-requires-clause-linked
take_and_link-requires-clause-linked g c =
    let m = g.M.Memory in
    let s = c.args.self.now in
    let ps = processors_of s.caches in
    let n = c.squashed-hit.result in
    let cut = after-cut m.words s c.requires n c.cut_last.new.self.list c.cut_last.ensures.none c.cut_last.ensures.some in
    subst (λ (l : List ℕ). Linked l c.args.a (lines_in c.cut_last.new.self)) (sym c.cut_last.ensures.order) (laid-linked (m.words s.memory) (take (length ps - n) ps) (lines_in c.cut_last.new.self) cut.0 c.args.a)

pub returns : goal.returns
returns g c =
    let m = g.M.Memory in
    let s = c.args.self.now in
    let ps = processors_of s.caches in
    let at = at-processor c.args.p c.in_ok-p.p c.in_ok-p.k (λ (p : ℕ). access_place c.size.result ps (table_of s.caches) p c.args.a) c.in_ok-p.ensures in
    let table = table_of s.caches in
    let k = c.in_ok-p.k in
    let n = c.squashed-hit.result in
    let line = c.line-line.ensures ∙ ap (lines_in s.caches c.in_ok-p.p) c.of.ensures in
    let mask : c.invalidated-mask.result ≡ powers (reached (λ q. table q c.args.a) (drop (suc k) ps)) =
    c.invalidated-mask.ensures ∙ (ap (λ (b : ℕ). powers (reached (λ q. table q b) (drop (k + 1) ps))) c.sharers-sharers.ensures.address
    ∙ ap (λ (j : ℕ). powers (reached (λ q. table q c.args.a) (drop j ps))) (add-one k)) in
    let test : (is_own (table c.in_ok-p.p c.args.a) && not (is_some (lines_in s.caches c.in_ok-p.p (c.args.a % 16)).next)) ≡ false =
    ap (λ (x : Line). is_own (version_at x c.args.a) && not (is_some x.next)) (sym line) ∙ (sym c.takes_store.ensures ∙ c.if-takes_store.false) in
    let cut = after-cut m.words s c.requires n c.cut_last.new.self.list c.cut_last.ensures.none c.cut_last.ensures.some in
    let mid = lines_in c.cut_last.new.self in
    took m.words m.sound m.spare s (λ (p : ℕ). Store p c.args.a c.args.w) c.args.p c.in_ok-p.p n _ at.0
    (turn-store-miss m.words s c.requires c.in_ok-p.p c.args.a c.args.w k n
    c.invalidated-mask.result mid (processors_of c.take_and_link.new.self) c.take_and_link.new.self.list c.bus_write-self.result
    (at.1 ∙ ap (λ (n : ℕ). access_place n (processors_of s.caches) (table_of s.caches) c.in_ok-p.p c.args.a) c.size.ensures)
    test (hit-is table ps k c.args.a n (hit-at (table_of s.caches) ps c.in_ok-p.k c.args.a c.squashed-hit.result c.sharers-sharers.result.address c.sharers-sharers.ensures.address c.squashed-hit.ensures)) mask cut.0 cut.1 (c.take_and_link.ensures.order ∙ c.cut_last.ensures.order)
    (c.take_and_link.ensures.lines ∙ ap (λ (l : List ℕ). relinked l c.args.a (with_line mid c.in_ok-p.p (c.args.a % 16) (with_taken StoreLine (mid c.in_ok-p.p (c.args.a % 16)) c.args.a c.args.w))) c.cut_last.ensures.order)
    c.take_and_link.new.self.wide c.bus_write-self.ensures) c.requires.memory refl
