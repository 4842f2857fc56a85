use Rattle.std.proofs.Common.{refl, ◌≡◌, ◌+◌, ◌%◌, ℕ, true, List, length, get_or, slice_index, drop, suc, None, Some, sym, ap, ◌∙◌, subst, add-one, arith}
use Rattle.std.proofs.lemmas.List.{length-map}
use Rattle.versions.specs.Sharers.{LastBelow, holds_at, versions_of}
use Rattle.versions.specs.Versions.{is_held}
use Rattle.versions.proofs.Ordering.{few}
use Rattle.versions.proofs.Sharing.{holds-inside}
use Rattle.versions.proofs.Tabling.{placed}
use Rattle.snooping.specs.declared.line.Line.{Line}
use Rattle.snooping.specs.Caches.{lines_in, processors_of, table_of}
use Rattle.snooping.specs.Grid.{LineTable, with_line, holder}
use Rattle.snooping.specs.Lines.{version_in, version_at, with_next, with_taken}
use Rattle.snooping.proofs.Keeping.{own-tag}
use Rattle.snooping.proofs.Relinking.{now-held, holds-at, own-held, own_linked, both_linked, link-first, link-after}
use Rattle.snooping.proofs.caches.Caches.take_and_link.Goals as goal

taken-held : (y : Line) (a : ℕ) → y.tag ≡ a → is_held (version_in y) ≡ true → is_held (version_at y a) ≡ true
taken-held y a tag held = ap (λ (b : ℕ). is_held (version_at y b)) (sym tag) ∙ (ap is_held (own-tag y) ∙ held)

pub overflow_add-k : goal.overflow_add-k
overflow_add-k c = omega (arith, (placed (processors_of c.args.self.now) c.args.p c.args.k c.requires.place).within, few (processors_of c.args.self.now) c.requires.apart)

pub next_holder-next-requires-clause-bound : goal.next_holder-next-requires-clause-bound
next_holder-next-requires-clause-bound c = omega (arith, (placed (processors_of c.args.self.now) c.args.p c.args.k c.requires.place).within, few (processors_of c.args.self.now) c.requires.apart)

pub holder_before-before-requires : goal.holder_before-before-requires
holder_before-before-requires c = omega (arith, (placed (processors_of c.args.self.now) c.args.p c.args.k c.requires.place).within, few (processors_of c.args.self.now) c.requires.apart)

pub link-requires : goal.link-requires
link-requires c =
    let ls = lines_in c.args.self.now in
    let a = c.args.a in
    let y = with_taken c.args.event (ls c.args.p (a % 16)) a c.args.w in
    ap (λ (x : LineTable). is_held (version_at (x c.args.p (a % 16)) a)) c.take.ensures.lines ∙ now-held ls c.args.p a y (taken-held y a refl c.requires.held)

pub at-q-requires : goal.at-q-requires
at-q-requires c =
    let s = c.args.self.now in
    let b = c.args.sharers.address in
    let vs = versions_of (table_of s) b (processors_of s) in
    let last = c.in-Some.ensures vs c.requires.sharers in
    omega (arith, holds-inside vs c.in-Some.place last.1, length-map (processors_of s) (λ q. table_of s q b), ap length (c.link.ensures.order ∙ c.take.ensures.order))

pub link-requires-in-Some : goal.link-requires-in-Some
link-requires-in-Some c =
    let s = c.args.self.now in
    let ps = processors_of s in
    let ls = lines_in s in
    let a = c.args.a in
    let p = c.args.p in
    let place = c.in-Some.place in
    let y = with_taken c.args.event (ls p (a % 16)) a c.args.w in
    let held = taken-held y a refl c.requires.held in
    let last = c.in-Some.ensures (versions_of (table_of s) c.args.sharers.address ps) c.requires.sharers in
    let q-is : c.at-q.result ≡ get_or ps place 0 = c.at-q.ensures ∙ ap (λ (l : List ℕ). slice_index l place) (c.link.ensures.order ∙ c.take.ensures.order) in
    let own : lines_in c.link.new.self ≡ own_linked ls p a y held c.next_holder-next.result =
    c.link.ensures.lines ∙ ap (λ (x : LineTable). with_line x p (a % 16) (with_next (x p (a % 16)) c.next_holder-next.result)) c.take.ensures.lines in
    ap (λ (x : LineTable). is_held (version_at (x c.at-q.result (a % 16)) a)) own
    ∙ own-held ls p a y held c.next_holder-next.result c.at-q.result
    (ap (λ (r : ℕ). is_held (table_of s r a)) q-is ∙ subst (λ (b : ℕ). is_held (table_of s (get_or ps place 0) b) ≡ true) c.requires.address (holds-at (table_of s) c.args.sharers.address ps place last.1))

pub returns-in-Some-clause-lines : goal.returns-in-Some-clause-lines
returns-in-Some-clause-lines c =
    let s = c.args.self.now in
    let ps = processors_of s in
    let ls = lines_in s in
    let a = c.args.a in
    let p = c.args.p in
    let k = c.args.k in
    let place = c.in-Some.place in
    let y = with_taken c.args.event (ls p (a % 16)) a c.args.w in
    let held = taken-held y a refl c.requires.held in
    let last = subst (λ (b : ℕ). LastBelow (holds_at (versions_of (table_of s) b ps)) k (Some place)) c.requires.address (c.in-Some.ensures (versions_of (table_of s) c.args.sharers.address ps) c.requires.sharers) in
    let next : c.next_holder-next.result ≡ holder (table_of s) a (drop (suc k) ps) =
    c.next_holder-next.ensures ∙ (ap (λ (b : ℕ). holder (table_of s) b (drop (k + 1) ps)) c.requires.address ∙ ap (λ (m : ℕ). holder (table_of s) a (drop m ps)) (add-one k)) in
    let q-is : c.at-q.result ≡ get_or ps place 0 = c.at-q.ensures ∙ ap (λ (l : List ℕ). slice_index l place) (c.link.ensures.order ∙ c.take.ensures.order) in
    let own : lines_in c.link.new.self ≡ own_linked ls p a y held (holder (table_of s) a (drop (suc k) ps)) =
    c.link.ensures.lines ∙ (ap (λ (x : LineTable). with_line x p (a % 16) (with_next (x p (a % 16)) c.next_holder-next.result)) c.take.ensures.lines ∙ ap (own_linked ls p a y held) next) in
    c.link-in-Some.ensures.lines
    ∙ (ap (λ (x : LineTable). with_line x c.at-q.result (a % 16) (with_next (x c.at-q.result (a % 16)) (Some c.number.result))) own
    ∙ (ap (λ (n : ℕ). with_line (own_linked ls p a y held (holder (table_of s) a (drop (suc k) ps))) c.at-q.result (a % 16) (with_next (own_linked ls p a y held (holder (table_of s) a (drop (suc k) ps)) c.at-q.result (a % 16)) (Some n))) c.number.ensures.value
    ∙ (ap (λ (r : ℕ). both_linked ls p a y held r (holder (table_of s) a (drop (suc k) ps))) q-is
    ∙ sym (link-after ls p a y held ps k place c.requires.apart c.requires.linked c.requires.place last.0 last.1 last.2))))

pub returns-in_default-clause-lines : goal.returns-in_default-clause-lines
returns-in_default-clause-lines c =
    let s = c.args.self.now in
    let ps = processors_of s in
    let ls = lines_in s in
    let a = c.args.a in
    let p = c.args.p in
    let k = c.args.k in
    let y = with_taken c.args.event (ls p (a % 16)) a c.args.w in
    let held = taken-held y a refl c.requires.held in
    let last = subst (λ (b : ℕ). LastBelow (holds_at (versions_of (table_of s) b ps)) k None) c.requires.address (c.in_default.ensures (versions_of (table_of s) c.args.sharers.address ps) c.requires.sharers) in
    let next : c.next_holder-next.result ≡ holder (table_of s) a (drop (suc k) ps) =
    c.next_holder-next.ensures ∙ (ap (λ (b : ℕ). holder (table_of s) b (drop (k + 1) ps)) c.requires.address ∙ ap (λ (m : ℕ). holder (table_of s) a (drop m ps)) (add-one k)) in
    c.link.ensures.lines
    ∙ (ap (λ (x : LineTable). with_line x p (a % 16) (with_next (x p (a % 16)) c.next_holder-next.result)) c.take.ensures.lines
    ∙ (ap (own_linked ls p a y held) next ∙ sym (link-first ls p a y held ps k c.requires.apart c.requires.linked c.requires.place last)))
