use Rattle.std.proofs.Common.{◌≡◌, ◌+◌, ◌-◌, ◌^◌, ◌<◌, ◌≤◌, ℕ, cond, ◌&&◌, leb, ltb, min, map, length, get_or, take, drop, sym, ap, ◌∙◌, arith}
use Rattle.std.proofs.lemmas.List.{get_or_default, length-map}
use Rattle.versions.specs.declared.version.Version.{Version}
use Rattle.snooping.specs.Caches.{processors_of, table_of}
use Rattle.snooping.specs.Report.{reached, powers}
use Rattle.snooping.proofs.Watching.{byte-is, bit, sum-on, reached-none, reached-some, slots-of}
use Rattle.snooping.proofs.caches.Caches.invalidated.Goals as goal
use Rattle.snooping.proofs.caches.Caches.invalidated.Goals.{in-Some, in-None}

pub loop-i-preserved : goal.loop-i-preserved
loop-i-preserved c =
    let items = c.slots-p-items.result.now in
    let k = c.args.k in
    let i = c.loop-i.i in
    let end = c.match-owner_from.end in
    let mask = c.loop-i.mask in
    let n = c.number.result in
    let inside : i < length items = omega (arith, c.loop-i-test.true, c.slots-p-items.ensures.four, c.loop-i.auto.i-end) in
    let here : n ≡ get_or items i 0 = c.number.ensures.value ∙ (c.p-item.is ∙ get_or_default items i c.p-item.result 0 inside) in
    let one = bit (leb k i && ltb i end) n c.number.ensures.bound in
    record {
      mask = ap (λ (b : ℕ). mask + b) one.0 ∙ (ap (λ (q : ℕ). mask + cond (leb k i && ltb i end) (2 ^ q) 0) here ∙ sum-on items k i end mask inside c.loop-i.invariant.mask);
      bound = omega (arith, c.loop-i.invariant.bound, one.0, one.1);
    }

pub returns : goal.returns
returns c =
    let s = c.args.self.now in
    let ps = processors_of s in
    let items = c.slots-p-items.result.now in
    let k = c.args.k in
    let end = c.match-owner_from.end in
    let f : ℕ → Version = λ q. table_of s q c.args.sharers.address in
    let over : 4 ≤ c.loop-i.i = omega (arith, c.loop-i-test.false, c.slots-p-items.ensures.four) in
    let few : length ps ≤ 4 = omega (arith, c.requires.sharers.few, length-map ps f) in
    let far : (end ≤ length ps) × (reached f (drop k ps) ≡ take (end - k) (drop k ps)) = elim c.match-owner_from.branch [
      | in-Some w ↦
          let law = reached-some f ps k c.requires.bound w.in-Some.place w.is_marked.result (w.in-Some.ensures (map f ps) c.requires.sharers) (w.is_marked.ensures (map f ps) c.requires.sharers) in
          let byte = byte-is w.is_marked.result in
          let is : w.in-Some.place + cond w.is_marked.result 1 0 ≡ end = omega (arith, w.end-is, byte.0) in
          (omega (arith, is, byte.0, byte.1, law.0), law.1 ∙ ap (λ (n : ℕ). take (n - k) (drop k ps)) is)
      | in-None w ↦
          let is : length ps ≡ end = sym (w.end-is ∙ c.len-active.ensures.value) in
          (omega (arith, is), reached-none f ps k c.requires.bound (w.in-None.ensures (map f ps) c.requires.sharers) ∙ ap (λ (n : ℕ). take (n - k) (drop k ps)) is)
    ] in
    let all : min c.loop-i.i end ≡ end = omega (arith, over, few, far.0) in
    c.loop-i.invariant.mask ∙ (ap (λ (j : ℕ). powers (take (j - k) (drop k items))) all ∙ ap powers (slots-of items ps k end c.slots-p-items.ensures.first far.0 ∙ sym far.1))
