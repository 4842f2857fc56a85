-- Lines that are as the words, the order and the versions demand are exactly the lines that the plain state determines.
use Rattle.std.proofs.Common.{◌≡◌, ℕ, zero, suc, ◌%◌, ◌<◌, ◌≤◌, Bool, true, false, cond, ◌&&◌, ◌||◌, eqb, leb, ltb, ◌⊎◌, List, [], ◌∷◌, map, length, get_or, take, drop, is_some, Some, None, Ok, Err, Option, unwrap_or, sym, refl, ap, ◌∙◌, inl, inr, ⊎_elim, arith}
use Rattle.std.specs.List.{range_with_len, find, after_first}
use Rattle.std.specs.Option.{option_map}
use Rattle.std.specs.Result.{result_ok}
use Rattle.std.proofs.lemmas.List.FromFn.{length-map-range_with_len, get_or-map-range_with_len}
use Rattle.std.proofs.lemmas.List.{map-append, get_or_past, ext_get_or}
use Rattle.std.proofs.lemmas.Bool.{leb-false, lt-ltb, and_from, cases_lt, cond-true, cond-false, true≢false}
use Rattle.versions.specs.declared.refusal.Refusal.{Refusal}
use Rattle.versions.specs.declared.refusal.Refusal.TheVariants.{NoProcessor}
use Rattle.versions.specs.declared.version.Version.{Version}
use Rattle.versions.specs.Cuts.{up_to}
use Rattle.versions.specs.Orders.{place_in, Apart}
use Rattle.versions.specs.Plain.{Task, Plain, fresh, is_on, task_on, column}
use Rattle.versions.specs.Processors.{processor_answer}
use Rattle.versions.specs.Tables.{Table, task_by, plain_of, Fitting}
use Rattle.versions.specs.Versions.{no_version, is_held, is_own, laid_over, seen_by}
use Rattle.snooping.specs.declared.cache.Cache.{Cache}
use Rattle.snooping.specs.declared.line.Line.{Line}
use Rattle.snooping.specs.declared.state.LineState.{LineState}
use Rattle.snooping.specs.declared.state.LineState.TheVariants.{Invalid, Loaded, Stored, Both}
use Rattle.snooping.specs.Grid.{LineTable, no_cache, line_in, Wide, table_by, holder}
use Rattle.snooping.specs.Layout.{held_in, next_holder, line_for, line_of, lines_of}
use Rattle.snooping.specs.Lines.{blank, version_in}
use Rattle.snooping.specs.Snooping.{line_answer}
use Rattle.snooping.specs.States.{has_l, has_s, with_bits}
use Rattle.versions.proofs.Classes.{held-some, held_none}
use Rattle.versions.proofs.Ordering.{place_none, none-some, apart_below}
use Rattle.versions.proofs.Tabling.{placed, task_on-is, after_first_is, given-load}
use Rattle.snooping.proofs.Grids.{past-blank}
use Rattle.snooping.proofs.Holders.{seen-append, place-value}
use Rattle.snooping.proofs.Keeping.{Laid, shows, shown}

nothing-held : (c n : ℕ) → held_in (λ a. no_version) c n ≡ None
nothing-held c zero = refl
nothing-held c (suc n) = nothing-held c n

far-class : (at : ℕ → Version) (c n : ℕ) → 16 ≤ c → held_in at c n ≡ None
far-class at c n h = go (held_in at c n) refl
  where
    go : (o : Option ℕ) → held_in at c n ≡ o → o ≡ None
    go None e = refl
    go (Some a) e = let x = held-some (λ b. is_held (at b)) c n a e in absurd (omega (arith, x.2))

-- the plain state of words, an order and a table
module _ (ws ps : List ℕ) (table : Table) where
  idle-task : (qs : List ℕ) (q : ℕ) → place_in qs q ≡ None → task_on q (map (task_by table) qs) ≡ fresh q
  idle-task [] q e = refl
  idle-task (r ∷ qs) q e =
      let n = place_none r qs q e in
      cond-false (eqb r q) (task_by table r) (task_on q (map (task_by table) qs)) n.0 ∙ idle-task qs q n.1

  idle-line : (q c : ℕ) → place_in ps q ≡ None → line_of (plain_of ws ps table) q c ≡ blank
  idle-line q c e =
      ap (λ (t : Task). line_for (plain_of ws ps table) q (held_in t.at c (length ws))) (idle-task ps q e) ∙ ap (line_for (plain_of ws ps table) q) (nothing-held c (length ws))

  next-is : (a : ℕ) (qs : List ℕ) → next_holder a (map (task_by table) qs) ≡ holder table a qs
  next-is a [] = refl
  next-is a (q ∷ qs) = go (is_held (table q a)) (next-is a qs)
    where
      go : (t : Bool) → next_holder a (map (task_by table) qs) ≡ holder table a qs
          → option_map (λ u. u.on) (cond t (Some (task_by table q)) (find (λ u. is_held (u.at a)) (map (task_by table) qs))) ≡ cond t (Some q) (holder table a qs)
      go true e = refl
      go false e = e

  module _ (apart : Apart ps) (q k : ℕ) (place : place_in ps q ≡ Some k) where
    line-is : (a : ℕ) → line_for (plain_of ws ps table) q (Some a)
        ≡ record { state = with_bits (table q a).mark (is_own (table q a)); tag = a; word = seen_by (map (λ r. table r a) (take (suc k) ps)) (get_or ws a 0); next = holder table a (drop (suc k) ps) }
    line-is a =
        let x = placed ps q k place in
        ap
        (λ (t : Task). record {
          state = with_bits (t.at a).mark (is_own (t.at a));
          tag = a;
          word = seen_by (column a (up_to (is_on q) (map (task_by table) ps))) (get_or ws a 0);
          next = next_holder a (after_first (is_on q) (map (task_by table) ps));
        })
        (task_on-is table ps q k x)
        ∙ (ap
        (λ (w : ℕ). record { state = with_bits (table q a).mark (is_own (table q a)); tag = a; word = w; next = next_holder a (after_first (is_on q) (map (task_by table) ps)) })
        (given-load ws ps table q k apart place a)
        ∙ ap
        (λ (o : Option ℕ). record { state = with_bits (table q a).mark (is_own (table q a)); tag = a; word = seen_by (map (λ r. table r a) (take (suc k) ps)) (get_or ws a 0); next = o })
        (ap (next_holder a) (after_first_is table ps q k x) ∙ next-is a (drop (suc k) ps)))

    active-line : (c : ℕ) → line_of (plain_of ws ps table) q c ≡ line_for (plain_of ws ps table) q (held_in (table q) c (length ws))
    active-line c = ap (λ (t : Task). line_for (plain_of ws ps table) q (held_in t.at c (length ws))) (task_on-is table ps q k (placed ps q k place))

    -- the last of the tasks up to q's is q's
    pub last-seen : (a : ℕ) → seen_by (map (λ r. table r a) (take (suc k) ps)) (get_or ws a 0) ≡ laid_over (table q a) (seen_by (map (λ r. table r a) (take k ps)) (get_or ws a 0))
    last-seen a =
        ap (λ (l : List ℕ). seen_by (map (λ r. table r a) l) (get_or ws a 0)) (placed ps q k place).upto
        ∙ (ap (λ (l : List Version). seen_by l (get_or ws a 0)) (map-append (λ r. table r a) (take k ps) (q ∷ []))
        ∙ seen-append (map (λ r. table r a) (take k ps)) (table q a ∷ []) (get_or ws a 0))

state-bits : (s : LineState) (w : ℕ) → with_bits (has_l s) (is_some (cond (has_s s) (Some w) None)) ≡ s
state-bits Invalid w = refl
state-bits Loaded w = refl
state-bits Stored w = refl
state-bits Both w = refl

bits-mark : (l s : Bool) → has_l (with_bits l s) ≡ l
bits-mark true true = refl
bits-mark true false = refl
bits-mark false true = refl
bits-mark false false = refl

bits-own : (l s : Bool) → has_s (with_bits l s) ≡ s
bits-own true true = refl
bits-own true false = refl
bits-own false true = refl
bits-own false false = refl

pub some-if : (t : Bool) (w : ℕ) → is_some (cond t (Some w) None) ≡ t
some-if true w = refl
some-if false w = refl

-- a line that was laid out from a version has the version's bits
laid-own : (x : Line) (v : Version) → x.state ≡ with_bits v.mark (is_own v) → is_own (version_in x) ≡ is_own v
laid-own x v e = some-if (has_s x.state) x.word ∙ (ap has_s e ∙ bits-own v.mark (is_own v))

laid-held : (x : Line) (v : Version) → x.state ≡ with_bits v.mark (is_own v) → is_held (version_in x) ≡ is_held v
laid-held x v e = ap (λ (s : Bool). has_l x.state || s) (laid-own x v e) ∙ ap (λ (s : Bool). s || is_own v) (ap has_l e ∙ bits-mark v.mark (is_own v))

pub own-word : (x : Line) (w : ℕ) → (t : Bool) → has_s x.state ≡ t → (t ≡ false → x.word ≡ w) → x.word ≡ laid_over (version_in x) w
own-word x w true e f = sym (ap (λ (t : Bool). unwrap_or (cond t (Some x.word) None) w) e)
own-word x w false e f = f refl ∙ sym (ap (λ (t : Bool). unwrap_or (cond t (Some x.word) None) w) e)

-- from the demands to the plain state's lines
pub laid-line : (ws ps : List ℕ) (ls : LineTable) → Laid ws ps ls → Apart ps → Fitting (length ws) ps (table_by ls) → (q c : ℕ) → ls q c ≡ line_of (plain_of ws ps (table_by ls)) q c
laid-line ws ps ls x apart fits q c = go (place_in ps q) refl
  where
    idle : place_in ps q ≡ None → (t : Bool) → is_held (version_in (ls q c)) ≡ t → ls q c ≡ blank
    idle e true h = absurd (true≢false (sym h ∙ (ap is_held (sym (shows ws ps ls x q c h)) ∙ ap is_held (fits.idle q e (ls q c).tag))))
    idle e false h = x.bare q c h

    free : (t : Bool) → held_in (table_by ls q) c (length ws) ≡ None → is_held (version_in (ls q c)) ≡ t → ls q c ≡ blank
    free true f h =
        let shown-held : is_held (table_by ls q (ls q c).tag) ≡ true = ap is_held (shows ws ps ls x q c h) ∙ h in
        absurd (true≢false (sym shown-held ∙ held_none (λ b. is_held (table_by ls q b)) c (length ws) f (ls q c).tag (fits.inside q (ls q c).tag shown-held) (x.class q c h)))
    free false f h = x.bare q c h

    full : (k : ℕ) → place_in ps q ≡ Some k → (a : ℕ) → held_in (table_by ls q) c (length ws) ≡ Some a → ls q c ≡ line_for (plain_of ws ps (table_by ls)) q (Some a)
    full k place a f =
        let h = held-some (λ b. is_held (table_by ls q b)) c (length ws) a f in
        let s = shown ls q a h.1 in
        let tag_is : (ls q c).tag ≡ a = ap (λ (d : ℕ). (ls q d).tag) (sym h.2) ∙ s.0 in
        let held : is_held (version_in (ls q c)) ≡ true = ap (λ (d : ℕ). is_held (version_in (ls q d))) (sym h.2) ∙ s.1 in
        let version : table_by ls q a ≡ version_in (ls q c) = ap (table_by ls q) (sym tag_is) ∙ shows ws ps ls x q c held in
        let state-is : (ls q c).state ≡ with_bits (table_by ls q a).mark (is_own (table_by ls q a)) =
        sym (ap (λ (v : Version). with_bits v.mark (is_own v)) version ∙ state-bits (ls q c).state (ls q c).word) in
        let word-is : (ls q c).word ≡ seen_by (map (λ r. table_by ls r a) (take (suc k) ps)) (get_or ws a 0) =
        own-word (ls q c) (seen_by (map (λ r. table_by ls r a) (take k ps)) (get_or ws a 0)) (has_s (ls q c).state) refl
        (λ copy. x.word q k c place held (some-if (has_s (ls q c).state) (ls q c).word ∙ copy) ∙ ap (λ (b : ℕ). seen_by (map (λ r. table_by ls r b) (take k ps)) (get_or ws b 0)) tag_is)
        ∙ sym (last-seen ws ps (table_by ls) apart q k place a ∙ ap (λ (v : Version). laid_over v (seen_by (map (λ r. table_by ls r a) (take k ps)) (get_or ws a 0))) version) in
        let next-is : (ls q c).next ≡ holder (table_by ls) a (drop (suc k) ps) = x.next q k c place held ∙ ap (λ (b : ℕ). holder (table_by ls) b (drop (suc k) ps)) tag_is in
        whole (ls q c) (with_bits (table_by ls q a).mark (is_own (table_by ls q a))) a (seen_by (map (λ r. table_by ls r a) (take (suc k) ps)) (get_or ws a 0)) (holder (table_by ls) a (drop (suc k) ps)) state-is tag_is word-is next-is
        ∙ sym (line-is ws ps (table_by ls) apart q k place a)
      where
        whole : (x : Line) (s : LineState) (a w : ℕ) (o : Option ℕ) → x.state ≡ s → x.tag ≡ a → x.word ≡ w → x.next ≡ o → x ≡ record { state = s; tag = a; word = w; next = o }
        whole x s a w o e f g h =
            ap (λ (t : LineState). record { state = t; tag = x.tag; word = x.word; next = x.next }) e
            ∙ (ap (λ (t : ℕ). record { state = s; tag = t; word = x.word; next = x.next }) f
            ∙ (ap (λ (t : ℕ). record { state = s; tag = a; word = t; next = x.next }) g ∙ ap (λ (t : Option ℕ). record { state = s; tag = a; word = w; next = t }) h))

    active : (k : ℕ) → place_in ps q ≡ Some k → (o : Option ℕ) → held_in (table_by ls q) c (length ws) ≡ o → ls q c ≡ line_for (plain_of ws ps (table_by ls)) q o
    active k place None f = free (is_held (version_in (ls q c))) f refl
    active k place (Some a) f = full k place a f

    go : (o : Option ℕ) → place_in ps q ≡ o → ls q c ≡ line_of (plain_of ws ps (table_by ls)) q c
    go None e = idle e (is_held (version_in (ls q c))) refl ∙ sym (idle-line ws ps (table_by ls) q c e)
    go (Some k) e = active k e (held_in (table_by ls q) c (length ws)) refl ∙ sym (active-line ws ps (table_by ls) apart q k e c)

-- and back
module _ (ws ps : List ℕ) (ls : LineTable) (apart : Apart ps) (laid : (q c : ℕ) → ls q c ≡ line_of (plain_of ws ps (table_by ls)) q c) where
  -- a line is blank, or it is the line of an address that the task at its processor's place holds
  kinds : (q c : ℕ) → (ls q c ≡ blank) ⊎ ((k : ℕ) × (place_in ps q ≡ Some k) × ((a : ℕ) × (held_in (table_by ls q) c (length ws) ≡ Some a)))
  kinds q c = go (place_in ps q) refl
    where
      active : (k : ℕ) → place_in ps q ≡ Some k → (o : Option ℕ) → held_in (table_by ls q) c (length ws) ≡ o
          → (ls q c ≡ blank) ⊎ ((k : ℕ) × (place_in ps q ≡ Some k) × ((a : ℕ) × (held_in (table_by ls q) c (length ws) ≡ Some a)))
      active k e None f = inl (laid q c ∙ (active-line ws ps (table_by ls) apart q k e c ∙ ap (line_for (plain_of ws ps (table_by ls)) q) f))
      active k e (Some a) f = inr (k, e, (a, f))

      go : (o : Option ℕ) → place_in ps q ≡ o → (ls q c ≡ blank) ⊎ ((k : ℕ) × (place_in ps q ≡ Some k) × ((a : ℕ) × (held_in (table_by ls q) c (length ws) ≡ Some a)))
      go None e = inl (laid q c ∙ idle-line ws ps (table_by ls) q c e)
      go (Some k) e = active k e (held_in (table_by ls q) c (length ws)) refl

  module _ (q c k : ℕ) (place : place_in ps q ≡ Some k) (a : ℕ) (holds : held_in (table_by ls q) c (length ws) ≡ Some a) where
    the-line : ls q c
        ≡ record { state = with_bits (table_by ls q a).mark (is_own (table_by ls q a)); tag = a; word = seen_by (map (λ r. table_by ls r a) (take (suc k) ps)) (get_or ws a 0); next = holder (table_by ls) a (drop (suc k) ps) }
    the-line = laid q c ∙ (active-line ws ps (table_by ls) apart q k place c ∙ (ap (line_for (plain_of ws ps (table_by ls)) q) holds ∙ line-is ws ps (table_by ls) apart q k place a))

    line-held : is_held (version_in (ls q c)) ≡ is_held (table_by ls q a)
    line-held = laid-held (ls q c) (table_by ls q a) (ap (λ (x : Line). x.state) the-line)

    line-own : is_own (version_in (ls q c)) ≡ is_own (table_by ls q a)
    line-own = laid-own (ls q c) (table_by ls q a) (ap (λ (x : Line). x.state) the-line)

    line-tag : (ls q c).tag ≡ a
    line-tag = ap (λ (x : Line). x.tag) the-line

  blank-unheld : (q c : ℕ) → ls q c ≡ blank → is_held (version_in (ls q c)) ≡ true → ⊥
  blank-unheld q c e held = true≢false (sym held ∙ ap (λ (x : Line). is_held (version_in x)) e)

  pub line-laid : Laid ws ps ls
  line-laid = record {
    bare = λ q c none.
        ⊎_elim (λ (e : ls q c ≡ blank). e)
        (λ (x : (k : ℕ) × (place_in ps q ≡ Some k) × ((a : ℕ) × (held_in (table_by ls q) c (length ws) ≡ Some a))).
        absurd (true≢false (sym (held-some (λ b. is_held (table_by ls q b)) c (length ws) x.2.0 x.2.1).1 ∙ (sym (line-held q c x.0 x.1 x.2.0 x.2.1) ∙ none)))) (kinds q c);
    class = λ q c held.
        ⊎_elim (λ (e : ls q c ≡ blank). absurd (blank-unheld q c e held))
        (λ (x : (k : ℕ) × (place_in ps q ≡ Some k) × ((a : ℕ) × (held_in (table_by ls q) c (length ws) ≡ Some a))).
        ap (λ (b : ℕ). b % 16) (line-tag q c x.0 x.1 x.2.0 x.2.1) ∙ (held-some (λ b. is_held (table_by ls q b)) c (length ws) x.2.0 x.2.1).2) (kinds q c);
    next = λ q k c place held.
        ⊎_elim (λ (e : ls q c ≡ blank). absurd (blank-unheld q c e held))
        (λ (x : (j : ℕ) × (place_in ps q ≡ Some j) × ((a : ℕ) × (held_in (table_by ls q) c (length ws) ≡ Some a))).
        ap (λ (y : Line). y.next) (the-line q c k place x.2.0 x.2.1) ∙ ap (λ (b : ℕ). holder (table_by ls) b (drop (suc k) ps)) (sym (line-tag q c k place x.2.0 x.2.1))) (kinds q c);
    word = λ q k c place held copy.
        ⊎_elim (λ (e : ls q c ≡ blank). absurd (blank-unheld q c e held))
        (λ (x : (j : ℕ) × (place_in ps q ≡ Some j) × ((a : ℕ) × (held_in (table_by ls q) c (length ws) ≡ Some a))).
        let a = x.2.0 in
        ap (λ (y : Line). y.word) (the-line q c k place a x.2.1)
        ∙ (last-seen ws ps (table_by ls) apart q k place a
        ∙ (no_own (table_by ls q a) (seen_by (map (λ r. table_by ls r a) (take k ps)) (get_or ws a 0)) (sym (line-own q c k place a x.2.1) ∙ copy)
        ∙ ap (λ (b : ℕ). seen_by (map (λ r. table_by ls r b) (take k ps)) (get_or ws b 0)) (sym (line-tag q c k place a x.2.1))))) (kinds q c);
  }
    where
      no_own : (v : Version) (w : ℕ) → is_own v ≡ false → laid_over v w ≡ w
      no_own v w e = go v.own e
        where
          go : (o : Option ℕ) → is_some o ≡ false → unwrap_or o w ≡ w
          go None f = refl
          go (Some u) f = absurd (true≢false f)

-- the caches as a whole
pub caches-laid : (ws ps : List ℕ) (cs : List Cache) → Wide cs → Laid ws ps (line_in cs) → Apart ps → Fitting (length ws) ps (table_by (line_in cs)) → cs ≡ lines_of (plain_of ws ps (table_by (line_in cs)))
unfolding lines_of
caches-laid ws ps cs wide x apart fits =
    ext_get_or no_cache cs (map cache (range_with_len 0 4)) (wide.caches ∙ sym (length-map-range_with_len cache 0 4))
    (λ q h.
    let inside : q < 4 = omega (arith, wide.caches) in
    same-cache (get_or cs q no_cache) (cache q)
    (ext_get_or blank (get_or cs q no_cache).lines (map (line_of s q) (range_with_len 0 16)) (wide.lines q inside ∙ sym (length-map-range_with_len (line_of s q) 0 16))
    (λ c l. laid-line ws ps (line_in cs) x apart fits q c ∙ sym (get_or-map-range_with_len (line_of s q) 0 16 c c blank (omega (arith, wide.lines q inside)) (omega arith))))
    ∙ sym (get_or-map-range_with_len cache 0 4 q q no_cache inside (omega arith)))
  where
    s : Plain
    s = plain_of ws ps (table_by (line_in cs))

    cache : ℕ → Cache
    cache p = record { lines = map (line_of (plain_of ws ps (table_by (line_in cs))) p) (range_with_len 0 16) }

    same-cache : (x y : Cache) → x.lines ≡ y.lines → x ≡ y
    same-cache x y e = ap (λ (l : List Line). record { lines = l }) e

-- one line of those that a plain state determines
pub line-at : (s : Plain) (q c : ℕ) → q < 4 → c < 16 → line_in (lines_of s) q c ≡ line_of s q c
unfolding lines_of
line-at s q c h l =
    ap (λ (x : Cache). get_or x.lines c blank) (get_or-map-range_with_len (λ p. record { lines = map (line_of s p) (range_with_len 0 16) }) 0 4 q q no_cache h (omega arith))
    ∙ get_or-map-range_with_len (line_of s q) 0 16 c c blank l (omega arith)

-- a line that a user asks for, by any two numbers
pub line-asked : (s : Plain) (p c q d : ℕ) (x : Line) → Some q ≡ result_ok (processor_answer p) → Some d ≡ cond (leb 16 c) None (Some c) → (q < 4 → d < 16 → x ≡ line_of s q d) → Some x ≡ line_answer s p c
line-asked s p c q d x at_p at-c is = go (leb 4 p) (leb 16 c) refl refl at_p at-c
  where
    go : (t u : Bool) → leb 4 p ≡ t → leb 16 c ≡ u → Some q ≡ result_ok {E = Refusal} (cond t (Err NoProcessor) (Ok p)) → Some d ≡ cond u None (Some c) → Some x ≡ line_answer s p c
    go true u f g y z = absurd (none-some q y)
    go false true f g y z = absurd (none-some d z)
    go false false f g y z =
        let low : p < 4 = leb-false 4 p f in
        let low₁ : c < 16 = leb-false 16 c g in
        let q-is : q ≡ p = cc in
        let d-is : d ≡ c = cc in
        ap Some (is (omega arith) (omega arith) ∙ (ap (λ (r : ℕ). line_of s r d) q-is ∙ ap (line_of s p) d-is))
        ∙ sym (cond-true (ltb p 4 && ltb c 16) (Some (line_of s p c)) None (and_from (ltb p 4) (ltb c 16) (lt-ltb p 4 low) (lt-ltb c 16 low₁)))

pub laid-caches : (ws ps : List ℕ) (cs : List Cache) → Wide cs → cs ≡ lines_of (plain_of ws ps (table_by (line_in cs))) → Apart ps → Laid ws ps (line_in cs)
laid-caches ws ps cs wide is apart = line-laid ws ps (line_in cs) apart (λ q c. ⊎_elim (λ (h : q < 4). inner q c h) (λ (h : 4 ≤ q). past-blank cs wide q c h ∙ sym (idle-line ws ps (table_by (line_in cs)) q c (beyond q h))) (cases_lt q 4))
  where
    s : Plain
    s = plain_of ws ps (table_by (line_in cs))

    beyond : (q : ℕ) → 4 ≤ q → place_in ps q ≡ None
    beyond q h = go (place_in ps q) refl
      where
        go : (o : Option ℕ) → place_in ps q ≡ o → o ≡ None
        go None e = refl
        go (Some k) e = absurd (omega (arith, apart_below ps k apart (placed ps q k e).within, place-value ps q k e))

    far : (q c : ℕ) → 16 ≤ c → (o : Option ℕ) → place_in ps q ≡ o → line_of (plain_of ws ps (table_by (line_in cs))) q c ≡ blank
    far q c h None e = idle-line ws ps (table_by (line_in cs)) q c e
    far q c h (Some k) e = active-line ws ps (table_by (line_in cs)) apart q k e c ∙ ap (line_for (plain_of ws ps (table_by (line_in cs))) q) (far-class (table_by (line_in cs) q) c (length ws) h)

    inner : (q c : ℕ) → q < 4 → line_in cs q c ≡ line_of (plain_of ws ps (table_by (line_in cs))) q c
    inner q c h =
        ⊎_elim
        (λ (l : c < 16). ap (λ (xs : List Cache). line_in xs q c) is ∙ line-at s q c h l)
        (λ (l : 16 ≤ c). get_or_past (get_or cs q no_cache).lines c blank (omega (arith, wide.lines q h)) ∙ sym (far q c l (place_in ps q) refl))
        (cases_lt c 16)
