use Rattle.std.proofs.Common.{◌≡◌, ℕ, ◌-◌, length, drop, Err, sym, refl, ap, ◌∙◌, subst, arith, List, map, ◌+◌}
use Rattle.std.proofs.lemmas.Result.{err_from_is_err_and}
use Rattle.versions.specs.declared.turn.Turn.TheVariants.{Store}
use Rattle.buffer.specs.Rows.{HoldsNoOther}
use Rattle.buffer.specs.Tasks.{table_of}
use Rattle.versions.specs.Tables.{access_place, with_processor, Table}
use Rattle.versions.specs.Versions.{squashed_by}
use Rattle.versions.proofs.Fits.{held-without}
use Rattle.versions.proofs.Judging.{load-agrees, at-processor, ok-access}
use Rattle.versions.proofs.Serving.{class-free, serve-store, hit-is}
use Rattle.versions.proofs.Ordering.{few}
use Rattle.versions.proofs.Tabling.{placed, squashes, squashes-le}
use Rattle.buffer.proofs.Taking.{turn-refused, turn-served}
use Rattle.buffer.proofs.buffer.CentralBufferVersionStore.store.Goals as goal

-- how many tasks are squashed, by the sharers of a
squashed-at : (table : Table) (ps : List ℕ) (k a b n : ℕ) → b ≡ a → n ≡ squashed_by (map (λ q. table q b) (drop (k + 1) ps)) → n ≡ squashes table ps k a
squashed-at table ps k a b n same is = hit-is table ps k a n (is ∙ ap (λ (x : ℕ). squashed_by (map (λ q. table q x) (drop (k + 1) ps))) same)

pub returns-in_err-p : goal.returns-in_err-p
returns-in_err-p g c =
    let m = g.M.Memory in
    let b = c.args.self.now in
    let q = err_from_is_err_and c.from_residual.result c.from_residual.ensures.1 in
    let place = λ (n : ℕ). access_place n b.tasks.order (table_of b.tasks) c.args.p c.args.a in
    turn-refused m.words m.sound m.spare b (Store c.args.p c.args.a c.args.w) c.from_residual.result c.in_err-p.field-0.0 c.args.p (place _) c.requires
    (load-agrees (m.words b.memory) b.tasks.order (table_of b.tasks) c.args.p c.args.a) (c.in_err-p.ensures ∙ ap (λ (n : ℕ). with_processor c.args.p (place n)) c.size.ensures) (q.1 ∙ ap Err q.2)

pub overflow_add-k : goal.overflow_add-k
overflow_add-k g c =
    let b = c.args.self.now in
    let ps = b.tasks.order in
    let at = at-processor c.args.p c.in_ok-p.p c.in_ok-p.k (λ (p : ℕ). access_place c.size.result ps (table_of b.tasks) p c.args.a) c.in_ok-p.ensures in
    let y = ok-access c.size.result ps (table_of b.tasks) c.in_ok-p.p c.args.a c.in_ok-p.k at.1 in
    omega (arith, (placed ps c.in_ok-p.p c.in_ok-p.k y.0).within, few ps c.requires.apart)

pub squashed-hit-requires-clause-bound : goal.squashed-hit-requires-clause-bound
squashed-hit-requires-clause-bound g c =
    let b = c.args.self.now in
    let ps = b.tasks.order in
    let at = at-processor c.args.p c.in_ok-p.p c.in_ok-p.k (λ (p : ℕ). access_place c.size.result ps (table_of b.tasks) p c.args.a) c.in_ok-p.ensures in
    let y = ok-access c.size.result ps (table_of b.tasks) c.in_ok-p.p c.args.a c.in_ok-p.k at.1 in
    omega (arith, (placed ps c.in_ok-p.p c.in_ok-p.k y.0).within)

pub cut_last-requires : goal.cut_last-requires
cut_last-requires g c =
    let b = c.args.self.now in
    let ps = b.tasks.order in
    let at = at-processor c.args.p c.in_ok-p.p c.in_ok-p.k (λ (p : ℕ). access_place c.size.result ps (table_of b.tasks) p c.args.a) c.in_ok-p.ensures in
    let y = ok-access c.size.result ps (table_of b.tasks) c.in_ok-p.p c.args.a c.in_ok-p.k at.1 in
    let hit = squashed-at (table_of b.tasks) ps c.in_ok-p.k c.args.a c.sharers-sharers.result.address c.squashed-hit.result c.sharers-sharers.ensures.address c.squashed-hit.ensures in
    omega (arith, squashes-le (table_of b.tasks) ps c.in_ok-p.p c.in_ok-p.k c.args.a y.0, hit)

pub overflow_cast-result : goal.overflow_cast-result
overflow_cast-result g c =
    let b = c.args.self.now in
    let ps = b.tasks.order in
    let at = at-processor c.args.p c.in_ok-p.p c.in_ok-p.k (λ (p : ℕ). access_place c.size.result ps (table_of b.tasks) p c.args.a) c.in_ok-p.ensures in
    let y = ok-access c.size.result ps (table_of b.tasks) c.in_ok-p.p c.args.a c.in_ok-p.k at.1 in
    let hit = squashed-at (table_of b.tasks) ps c.in_ok-p.k c.args.a c.sharers-sharers.result.address c.squashed-hit.result c.sharers-sharers.ensures.address c.squashed-hit.ensures in
    omega (arith, squashes-le (table_of b.tasks) ps c.in_ok-p.p c.in_ok-p.k c.args.a y.0, hit, few ps c.requires.apart)

pub note_store-requires : goal.note_store-requires
note_store-requires g c =
    let b = c.args.self.now in
    let ps = b.tasks.order in
    let table = table_of b.tasks in
    let n = length (g.M.Memory.words b.memory) in
    let at = at-processor c.args.p c.in_ok-p.p c.in_ok-p.k (λ (p : ℕ). access_place c.size.result ps table p c.args.a) c.in_ok-p.ensures in
    let y = ok-access n ps table c.in_ok-p.p c.args.a c.in_ok-p.k (at.1 ∙ ap (λ (n : ℕ). access_place n ps table c.in_ok-p.p c.args.a) c.size.ensures) in
    subst (λ (t : Table). HoldsNoOther (t c.in_ok-p.p) c.args.a) (sym c.cut_last.ensures.table)
    (λ x held class. class-free n ps table c.in_ok-p.p c.args.a c.requires.fits y.3 x
    (held-without table (drop (length ps - c.squashed-hit.result) ps) c.in_ok-p.p x held) class)

pub returns : goal.returns
returns g c =
    let m = g.M.Memory in
    let b = c.args.self.now in
    let a = c.args.a in
    let w = c.args.w in
    let ps = b.tasks.order in
    let table = table_of b.tasks in
    let at = at-processor c.args.p c.in_ok-p.p c.in_ok-p.k (λ (p : ℕ). access_place c.size.result ps table p a) c.in_ok-p.ensures in
    let hit = squashed-at table ps c.in_ok-p.k a c.sharers-sharers.result.address c.squashed-hit.result c.sharers-sharers.ensures.address c.squashed-hit.ensures in
    turn-served m.words m.sound m.spare b (λ (p : ℕ). Store p a w) c.args.p c.in_ok-p.p c.squashed-hit.result _ at.0
    (serve-store (m.words b.memory) ps table c.requires.apart c.requires.fits c.in_ok-p.p a w c.in_ok-p.k c.squashed-hit.result
    c.note_store.new.self.order (table_of c.cut_last.new.self) (table_of c.note_store.new.self)
    (at.1 ∙ ap (λ (n : ℕ). access_place n ps table c.in_ok-p.p a) c.size.ensures) hit
    (c.note_store.ensures.order ∙ c.cut_last.ensures.order) c.cut_last.ensures.table c.note_store.ensures.table)
    c.requires.memory refl
