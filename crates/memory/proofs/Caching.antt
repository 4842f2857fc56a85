-- Laws of the second-level cache: what giving up a line and taking one do to the words as counted.
use Rattle.std.proofs.Common.{◌≡◌, ℕ, ◌+◌, ◌%◌, ◌<◌, true, false, eqb, ◌≢◌, List, length, get_or, set, replicate, is_some, IfSome, Some, None, Ok, Err, Option, unwrap_or, sym, refl, ap, ◌∙◌, ⊎_elim, arith}
use Rattle.std.proofs.lemmas.List.FromFn.{length-map-range_with_len, get_or-map-range_with_len}
use Rattle.std.proofs.lemmas.List.{length-set, get_or-set_same, get_or-set_other, ext_get_or, set-get_or, get_or-replicate, length-replicate}
use Rattle.std.proofs.lemmas.Bool.{cases_eq, eq-eqb, ne_eqb, cond-true, cond-false, cond_both}
use Rattle.std.proofs.lemmas.Bool.Decides.{nat_tests}
use Rattle.std.proofs.lemmas.Grind.{common_steps, same_number_lists}
use Rattle.memory.specs.declared.error.MemoryError.{MemoryError}
use Rattle.memory.specs.declared.second.Line.{Line}
use Rattle.memory.specs.declared.second.Line.TheVariants.{Empty, Clean, Changed}
use Rattle.memory.specs.Words.{read_answer, written_words}
use Rattle.memory.specs.Second.{Cached, empty_over, word_in, line_of, hit, counted_at, counted, written_back, given_up, freed, with_line, MayHold, Tied}

pub length-counted : (c : Cached) → length (counted c) ≡ length c.below
unfolding counted
length-counted c = length-map-range_with_len (counted_at c) 0 (length c.below)

pub ruleset sizes = (length-counted)

pub get_or-counted : (c : Cached) (a : ℕ) → a < length c.below → get_or (counted c) a 0 ≡ counted_at c a
unfolding counted
get_or-counted c a h = get_or-map-range_with_len (counted_at c) 0 (length c.below) a a 0 h (omega arith)

-- a line has no word for an address that belongs to another line
pub word_in-elsewhere : (ws : List ℕ) (i : ℕ) (l : Line) (b : ℕ) → MayHold ws i l → b % 64 ≢ i → word_in l b ≡ None
word_in-elsewhere ws i l b m ne = grind (arith, nat_tests)

pub length-written_back : (ws : List ℕ) (l : Line) → length (written_back l ws) ≡ length ws
length-written_back ws l = grind (arith, common_steps)

-- once a line is given up, the words below show what the line showed
pub get_or-written_back : (ws : List ℕ) (i : ℕ) (l : Line) (b : ℕ) → MayHold ws i l → get_or (written_back l ws) b 0 ≡ unwrap_or (word_in l b) (get_or ws b 0)
get_or-written_back ws i l b m = grind (arith, common_steps)

-- a line may still be held where the words of its addresses stay
may_hold-kept : (ws vs : List ℕ) (i : ℕ) (l : Line) → MayHold ws i l → length vs ≡ length ws → ((t : ℕ) → t % 64 ≡ i → get_or vs t 0 ≡ get_or ws t 0) → MayHold vs i l
may_hold-kept ws vs i l m n same = grind (arith, nat_tests)

-- giving up line i leaves the words below of other lines' addresses
below-elsewhere : (c : Cached) (i b : ℕ) → Tied c → i < 64 → b % 64 ≢ i → get_or (given_up c i).below b 0 ≡ get_or c.below b 0
below-elsewhere c i b t h ne = let m = t.each i h in grind (arith, word_in-elsewhere, get_or-written_back)

pub tied-given_up : (c : Cached) (i : ℕ) → Tied c → i < 64 → Tied (given_up c i)
tied-given_up c i t h = record {
  count = length-set c.lines i Empty ∙ t.count;
  each = λ j k. ⊎_elim
      (λ (e : j ≡ i). rw (e, get_or-set_same c.lines i Empty Empty (rw t.count h)) tt)
      (λ (ne : j ≢ i). rw (get_or-set_other c.lines i j Empty Empty ne)
      (may_hold-kept c.below (given_up c i).below j (get_or c.lines j Empty) (t.each j k)
      (length-written_back c.below (get_or c.lines i Empty))
      (λ b e. below-elsewhere c i b t h (λ f. ne (sym e ∙ f)))))
      (cases_eq j i);
}

-- giving up a line changes no word as counted
pub counted-given_up : (c : Cached) (i : ℕ) → Tied c → i < 64 → counted (given_up c i) ≡ counted c
counted-given_up c i t h =
    let n : length (given_up c i).below ≡ length c.below = length-written_back c.below (get_or c.lines i Empty) in
    ext_get_or 0 (counted (given_up c i)) (counted c) (length-counted (given_up c i) ∙ (n ∙ sym (length-counted c)))
    (λ b k.
    let inside : b < length (given_up c i).below = rw length-counted at k in
    get_or-counted (given_up c i) b inside
    ∙ (⊎_elim
    (λ (e : b % 64 ≡ i). rw (e, get_or-set_same c.lines i Empty Empty (rw t.count h))
    (get_or-written_back c.below i (get_or c.lines i Empty) b (t.each i h)))
    (λ (ne : b % 64 ≢ i). rw (get_or-set_other c.lines i (b % 64) Empty Empty ne)
    (ap (λ v. unwrap_or (word_in (get_or c.lines (b % 64) Empty) b) v) (below-elsewhere c i b t h ne)))
    (cases_eq (b % 64) i)
    ∙ sym (get_or-counted c b (rw n at inside))))

-- the cache with the line l put where address a belongs
abbrev placed : Cached → ℕ → Line → Cached
placed c a l = record { lines = set c.lines (a % 64) l; below = c.below }

-- the line of address a holds no other address
abbrev Free : Cached → ℕ → Type 0
Free c a = (b : ℕ) → b ≢ a → word_in (line_of c a) b ≡ None

tied-placed : (c : Cached) (a : ℕ) (l : Line) → Tied c → MayHold c.below (a % 64) l → Tied (placed c a l)
tied-placed c a l t m =
    let count = t.count in
    record { count = length-set c.lines (a % 64) l ∙ count; each = λ j k. let held = t.each j k in grind (arith, common_steps) }

-- a line with the word w of address a alone makes w word a
counted-placed : (c : Cached) (a : ℕ) (l : Line) (w : ℕ) → Tied c → Free c a → a < length c.below
    → word_in l a ≡ Some w → ((b : ℕ) → b ≢ a → word_in l b ≡ None) → counted (placed c a l) ≡ set (counted c) a w
counted-placed c a l w t free h here there =
    let inside : a % 64 < length c.lines = rw t.count (omega arith) in
    ext_get_or 0 (counted (placed c a l)) (set (counted c) a w)
    (length-counted (placed c a l) ∙ sym (length-set (counted c) a w ∙ length-counted c))
    (λ b k.
    let within : b < length c.below = rw length-counted at k in
    get_or-counted (placed c a l) b within
    ∙ ⊎_elim
    (λ (e : b ≡ a). rw (e, get_or-set_same c.lines (a % 64) l Empty inside, here)
    (sym (get_or-set_same (counted c) a w 0 (rw length-counted h))))
    (λ (ne : b ≢ a).
    ⊎_elim
    (λ (e : b % 64 ≡ a % 64). rw (e, get_or-set_same c.lines (a % 64) l Empty inside, there b ne)
    (ap (λ o. unwrap_or o (get_or c.below b 0)) (sym (free b ne))))
    (λ (other : b % 64 ≢ a % 64). rw (get_or-set_other c.lines (a % 64) (b % 64) l Empty other))
    (cases_eq (b % 64) (a % 64))
    ∙ sym (get_or-set_other (counted c) a b w 0 ne ∙ get_or-counted c b within))
    (cases_eq b a))

-- a line that has a word for a has one for no other address
word_in-other : (l : Line) (a b : ℕ) → is_some (word_in l a) ≡ true → b ≢ a → word_in l b ≡ None
word_in-other l a b h ne = grind (arith, nat_tests)

-- freeing the line of a: the laws of giving it up, where it is another address's
tied-freed : (c : Cached) (a : ℕ) → Tied c → Tied (freed c a)
tied-freed c a t = cond_both (hit c a) c (given_up c (a % 64)) Tied (λ _. t) (λ _. tied-given_up c (a % 64) t (omega arith))

counted-freed : (c : Cached) (a : ℕ) → Tied c → counted (freed c a) ≡ counted c
counted-freed c a t =
    cond_both (hit c a) c (given_up c (a % 64)) (λ x. counted x ≡ counted c) (λ _. refl) (λ _. counted-given_up c (a % 64) t (omega arith))

length-freed : (c : Cached) (a : ℕ) → length (freed c a).below ≡ length c.below
length-freed c a =
    cond_both (hit c a) c (given_up c (a % 64)) (λ x. length x.below ≡ length c.below)
    (λ _. refl) (λ _. length-written_back c.below (line_of c a))

free-freed : (c : Cached) (a : ℕ) → Tied c → Free (freed c a) a
free-freed c a t =
    cond_both (hit c a) c (given_up c (a % 64)) (λ x. Free x a)
    (λ h b ne. word_in-other (line_of c a) a b h ne)
    (λ _ b ne. rw (get_or-set_same c.lines (a % 64) Empty Empty (rw t.count (omega arith))))

-- the cache after address a got a line with its word w: it is tied still, and w is word a as counted
takes-line : (c : Cached) (a : ℕ) (l : Line) (w : ℕ) → Tied c → a < length c.below → MayHold (freed c a).below (a % 64) l
    → word_in l a ≡ Some w → ((b : ℕ) → b ≢ a → word_in l b ≡ None) → Tied (with_line c a l) × (counted (with_line c a l) ≡ set (counted c) a w)
takes-line c a l w t h m here there = (
  tied-placed (freed c a) a l (tied-freed c a t) m,
  counted-placed (freed c a) a l w (tied-freed c a t) (free-freed c a t) (rw length-freed h) here there
      ∙ ap (λ (ws : List ℕ). set ws a w) (counted-freed c a t),
)

-- a write
pub writes_line : (c : Cached) (a w : ℕ) → Tied c → a < length c.below
    → Tied (with_line c a (Changed a w)) × (counted (with_line c a (Changed a w)) ≡ set (counted c) a w)
writes_line c a w t h =
    takes-line c a (Changed a w) w t h (refl, rw length-freed h)
    (cond-true (eqb a a) (Some w) None (eq-eqb a a refl)) (λ b ne. cond-false (eqb a b) (Some w) None (ne_eqb a b (λ e. ne (sym e))))

-- a read that misses
pub counted-miss : (c : Cached) (a : ℕ) → a < length c.below → word_in (line_of c a) a ≡ None → get_or (counted c) a 0 ≡ get_or c.below a 0
counted-miss c a h none = get_or-counted c a h ∙ ap (λ o. unwrap_or o (get_or c.below a 0)) none

pub fetches-line : (c : Cached) (a : ℕ) → Tied c → a < length c.below → word_in (line_of c a) a ≡ None
    → Tied (with_line c a (Clean a (get_or c.below a 0))) × (counted (with_line c a (Clean a (get_or c.below a 0))) ≡ counted c)
fetches-line c a t h none =
    let w = get_or c.below a 0 in
    let stays : get_or (freed c a).below a 0 ≡ w =
    rw (cond-false (hit c a) c (given_up c (a % 64)) (ap is_some none))
    (get_or-written_back c.below (a % 64) (line_of c a) a (t.each (a % 64) (omega arith)) ∙ ap (λ o. unwrap_or o w) none) in
    let taken = takes-line c a (Clean a w) w t h (refl, rw length-freed h, sym stays)
    (cond-true (eqb a a) (Some w) None (eq-eqb a a refl)) (λ b ne. cond-false (eqb a b) (Some w) None (ne_eqb a b (λ e. ne (sym e)))) in
    (taken.0, taken.1 ∙ (ap (λ (v : ℕ). set (counted c) a v) (sym (counted-miss c a h none)) ∙ set-get_or (counted c) a 0))

-- a read that hits: the address is one of the memory's, and the line's word is the word as counted
hit-inside : (ws : List ℕ) (i : ℕ) (l : Line) (a w : ℕ) → MayHold ws i l → word_in l a ≡ Some w → a < length ws
hit-inside ws i l a w m e = grind (arith, nat_tests)

pub counted-hit : (c : Cached) (a w : ℕ) → Tied c → word_in (line_of c a) a ≡ Some w → (a < length c.below) × (get_or (counted c) a 0 ≡ w)
counted-hit c a w t e =
    let inside : a < length c.below = hit-inside c.below (a % 64) (line_of c a) a w (t.each (a % 64) (omega arith)) e in
    (inside, get_or-counted c a inside ∙ ap (λ o. unwrap_or o (get_or c.below a 0)) e)

-- at opening: all lines are empty
pub tied-empty : (ws : List ℕ) → Tied (empty_over ws)
tied-empty ws = record { count = length-replicate 64 Empty; each = λ i h. rw (get_or-replicate 64 i Empty Empty h) tt }

-- where all lines are empty, the cache counts the words below
pub counted-empty : (c : Cached) → ((i : ℕ) → i < 64 → get_or c.lines i Empty ≡ Empty) → counted c ≡ c.below
counted-empty c e =
    same_number_lists _ _ (length-counted c)
    (λ b k. let f = e (b % 64) (omega arith) in grind (arith, length-counted, get_or-counted))

pub empty-lines : (i : ℕ) → i < 64 → get_or (replicate 64 Empty) i Empty ≡ Empty
empty-lines i h = get_or-replicate 64 i Empty Empty h

-- one step of giving up every line, from c to d: what holds of c holds of d, and line i is empty too
pub tied-after : (c d : Cached) (i : ℕ) → Tied c → i < 64 → d ≡ given_up c i → Tied d
tied-after c d i t h e = rw e (tied-given_up c i t h)

pub counted-after : (c d : Cached) (i : ℕ) → Tied c → i < 64 → d ≡ given_up c i → counted d ≡ counted c
counted-after c d i t h e = ap counted e ∙ counted-given_up c i t h

pub empty-after : (c d : Cached) (i : ℕ) → Tied c → i < 64 → d ≡ given_up c i → ((j : ℕ) → j < i → get_or c.lines j Empty ≡ Empty)
    → (j : ℕ) → j < i + 1 → get_or d.lines j Empty ≡ Empty
empty-after c d i t h e before j k =
    ap (λ (x : Cached). get_or x.lines j Empty) e
    ∙ ⊎_elim
    (λ (same : j ≡ i). rw same (get_or-set_same c.lines i Empty Empty (rw t.count h)))
    (λ (ne : j ≢ i). get_or-set_other c.lines i j Empty Empty ne ∙ before j (omega arith))
    (cases_eq j i)

-- a read of an address that the cache holds gives the line's word
pub held-answer : (c : Cached) (a : ℕ) (o : Option ℕ) → Tied c → o ≡ word_in (line_of c a) a → IfSome o (λ w. read_answer (counted c) a ≡ Ok w)
held-answer c a None t e = tt
held-answer c a (Some w) t e = let h = counted-hit c a w t (sym e) in grind (arith, nat_tests, length-counted)

-- a read that misses is refused where the memory below refuses
pub fetch-refused : (c : Cached) (a : ℕ) (e : MemoryError) → Err e ≡ read_answer c.below a → Err e ≡ read_answer (counted c) a
fetch-refused c a e refused = grind (arith, nat_tests, length-counted)

-- else it takes the line from the cache c to the cache d, with the word that the memory below gave
pub record Fetched (c d : Cached) (a w : ℕ) : Type 0 where
  pub answer : Ok w ≡ read_answer (counted c) a
  pub after : counted d ≡ counted c
  pub kept : Tied d

pub fetch-done : (c m d : Cached) (a w : ℕ) → Tied c → hit c a ≡ false → m ≡ c → Ok w ≡ read_answer c.below a → d ≡ with_line m a (Clean a w) → Fetched c d a w
fetch-done c m d a w t miss same done put =
    let ok : (a < length c.below) × (w ≡ get_or c.below a 0) = grind (arith, nat_tests) in
    let none : word_in (line_of c a) a ≡ None = grind (arith, nat_tests) in
    let law = fetches-line c a t ok.0 none in
    let is : d ≡ with_line c a (Clean a (get_or c.below a 0)) =
    put ∙ (ap (λ (x : Cached). with_line x a (Clean a w)) same ∙ ap (λ (v : ℕ). with_line c a (Clean a v)) ok.1) in
    let word = counted-miss c a ok.0 none in
    record {
      answer = grind (arith, nat_tests, length-counted c, word);
      after = ap counted is ∙ law.1;
      kept = rw is law.0;
    }

-- a write to an address of the memory, from the cache c to the cache d
pub record Written (c d : Cached) (a w : ℕ) : Type 0 where
  pub after : counted d ≡ written_words (counted c) a w
  pub kept : Tied d

pub write-done : (c d : Cached) (a w : ℕ) → Tied c → a < length (counted c) → d ≡ with_line c a (Changed a w) → Written c d a w
write-done c d a w t h put =
    let law = writes_line c a w t (rw length-counted at h) in
    record { after = grind (arith, nat_tests, law.1); kept = rw put law.0 }
