-- What a read gives stands after what was read before it.
use Rattle.std.proofs.Common.{◌≡◌, ℕ, ◌+◌, ◌-◌, ◌≤◌, List, ◌++◌, rules, length, take, sym, ap, ◌∙◌, subst, length-take-le}
use Rattle.std.proofs.KnownBytes.{Consumes-trans}
use Rattle.std.proofs.Math.Seq.{take-append-add}
use Rattle.std.proofs.lemmas.List.{take-append-le}
use Rattle.std.specs.Io.KnownBytes.{Consumes}
use borrow.Rule.Slice.PartMut.{put_mid, post_of}
use Rattle.files.proofs.fill.Goals as goal

-- of a list whose part from a on was replaced by ys
take-put_mid_more : (a k n : ℕ) (xs ys : List ℕ) → a ≤ length xs → n ≤ length ys → take (a + n) (put_mid a k xs ys) ≡ take a xs ++ take n ys
take-put_mid_more a k n xs ys within fits =
    ap (λ m. take (m + n) (put_mid a k xs ys)) (sym (length-take-le a xs within))
    ∙ (take-append-add (take a xs) (ys ++ post_of a k xs) n ∙ ap (λ l. take a xs ++ l) (take-append-le n ys (post_of a k xs) fits))

pub loop-len-preserved : goal.loop-len-preserved
loop-len-preserved g c =
    let old = c.loop-len in
    let read = c.in_ok-n.ensures in
    let more = take-put_mid_more old.len (length old.buffer - old.len) c.in_ok-n.n old.buffer c.read.new.buf old.invariant.within read.bound.0 in record {
      within = search rules;
      taken = subst (Consumes _ _) (sym more) (Consumes-trans _ _ _ _ _ old.invariant.taken read.bytes.0);
    }
