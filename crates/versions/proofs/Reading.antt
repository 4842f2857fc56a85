-- Sequential reading: from the book and the plain store going together, whatever led there.
use Rattle.std.proofs.Common.{◌≡◌, ℕ, suc, ◌<◌, true, false, List, [], ◌∷◌, ◌++◌, map, length, get_or, take, drop, Ok, sym, refl, ap, ◌∙◌, subst, arith}
use Rattle.std.specs.List.{after_first}
use Rattle.std.proofs.lemmas.List.{take-map, length-map, take-append-drop}
use Rattle.std.proofs.lemmas.Bool.{cond-true, cond-false}
use Rattle.versions.specs.declared.turn.Turn.TheVariants.{Store}
use Rattle.versions.specs.declared.version.Version.{Version}
use Rattle.versions.specs.Versions.{seen_by}
use Rattle.versions.specs.Plain.{Task, Plain, opened, memory_words, column, answer_of, state_after}
use Rattle.versions.specs.Book.{Access, loaded, Entry, Book, is_task_of, fed_one, all_accesses, committed_of, active_of, first_accesses, after_run, replaced_stores}
use Rattle.versions.specs.Sequential.{Event, fed_all, book_of, ExactSquash, Sequential, Leads, Mirrors, ReadsOn}
use Rattle.versions.proofs.Cells.{after_run-++, AgreesAt, agrees-right}
use Rattle.versions.proofs.Columns.{task_of, version_of, column-task_of}
use Rattle.versions.proofs.Holding.{Each, Held, all_accesses-++, settled, seen-rest}
use Rattle.versions.proofs.Turning.{Together, turn-together, answered-exact}

-- at opening
pub opened-together : (ws : List ℕ) → Together ws [] (opened ws)
opened-together ws = record {
  done = [];
  rest = [];
  parts = refl;
  tasks = refl;
  held = record { closed = tt; active = tt; clean = tt; size = refl; words = λ a l. refl; agrees = λ a. tt };
}

-- one event further
event-together : (ws : List ℕ) (b : Book) (s : Plain) (e : Event) → Together ws b s → e.answer ≡ answer_of s e.turn
    → Together ws (fed_one b e.turn e.answer) (state_after s e.turn)
event-together ws b s e i is = subst (λ r. Together ws (fed_one b e.turn r) (state_after s e.turn)) (sym is) (turn-together ws b s e.turn i)

pub leads-together : (ws : List ℕ) (b : Book) (s : Plain) (es : List Event) (t : Plain) → Together ws b s → Leads s es t → Together ws (fed_all b es) t
leads-together ws b s [] t i l = subst (Together ws b) l i
leads-together ws b s (e ∷ es) t i l = leads-together ws (fed_one b e.turn e.answer) (state_after s e.turn) es t (event-together ws b s e i l.0) l.1

-- each store on the way was exact
leads-exact : (ws : List ℕ) (b : Book) (s : Plain) (before : List Event) (p a w n : ℕ) (rest : List Event) (t : Plain)
    → Together ws b s → Leads s (before ++ record { turn = Store p a w; answer = Ok n } ∷ rest) t → ExactSquash a (after_first (is_task_of p) (fed_all b before)) n
leads-exact ws b s [] p a w n rest t i l = answered-exact ws b s p a w n i l.0
leads-exact ws b s (e ∷ before) p a w n rest t i l =
    leads-exact ws (fed_one b e.turn e.answer) (state_after s e.turn) before p a w n rest t (event-together ws b s e i l.0) l.1

-- the committed tasks and the others of a book whose committed ones come first
committed_of-parts : (done rest : List Entry) → Each (λ e. e.committed ≡ true) done → Each (λ e. e.committed ≡ false) rest → committed_of (done ++ rest) ≡ done
committed_of-parts [] [] h k = refl
committed_of-parts [] (e ∷ rest) h k = rw k.0 (committed_of-parts [] rest h k.1)
committed_of-parts (d ∷ done) rest h k =
    cond-true d.committed (d ∷ committed_of (done ++ rest)) (committed_of (done ++ rest)) h.0 ∙ ap (λ (l : List Entry). d ∷ l) (committed_of-parts done rest h.1 k)

active_of-parts : (done rest : List Entry) → Each (λ e. e.committed ≡ true) done → Each (λ e. e.committed ≡ false) rest → active_of (done ++ rest) ≡ rest
active_of-parts [] [] h k = refl
active_of-parts [] (e ∷ rest) h k = cond-false e.committed (active_of rest) (e ∷ active_of rest) k.0 ∙ ap (λ (l : List Entry). e ∷ l) (active_of-parts [] rest h k.1)
active_of-parts (d ∷ done) rest h k = rw h.0 (active_of-parts done rest h.1 k)

map_on : (es : List Entry) → map (λ t. t.on) (map task_of es) ≡ map (λ e. e.by) es
map_on [] = refl
map_on (e ∷ es) = ap (λ l. e.by ∷ l) (map_on es)

module _ (ws : List ℕ) (b : Book) (s : Plain) (i : Together ws b s) where
  committed-is : committed_of b ≡ i.done
  committed-is = ap committed_of i.parts ∙ committed_of-parts i.done i.rest i.held.closed i.held.active

  active-is : active_of b ≡ i.rest
  active-is = ap active_of i.parts ∙ active_of-parts i.done i.rest i.held.closed i.held.active

  -- every surviving load got the run's word
  reads-run : (xs : List Access) (a v : ℕ) (ys : List Access) → all_accesses b ≡ xs ++ loaded a v ∷ ys → v ≡ after_run xs a (get_or ws a 0)
  reads-run xs a v ys e =
      let all : all_accesses i.done ++ all_accesses i.rest ≡ xs ++ loaded a v ∷ ys = sym (ap all_accesses i.parts ∙ all_accesses-++ i.done i.rest) ∙ e in
      (agrees-right xs (loaded a v ∷ ys) a (get_or ws a 0) (subst (λ (l : List Access). AgreesAt a l (get_or ws a 0)) all (i.held.agrees a))).0 refl

  -- the memory's words are the committed run's, then the head's replaced stores'
  words-run : (a : ℕ) → a < length ws → get_or s.memory a 0 ≡ after_run (all_accesses (committed_of b) ++ replaced_stores (first_accesses (active_of b))) a (get_or ws a 0)
  words-run a l =
      i.held.words a l
      ∙ (sym (after_run-++ (all_accesses i.done) (replaced_stores (first_accesses i.rest)) a (get_or ws a 0))
      ∙ (ap (λ (d : List Entry). after_run (all_accesses d ++ replaced_stores (first_accesses i.rest)) a (get_or ws a 0)) (sym committed-is)
      ∙ ap (λ (r : List Entry). after_run (all_accesses (committed_of b) ++ replaced_stores (first_accesses r)) a (get_or ws a 0)) (sym active-is)))

  -- each task sees what the run leaves after it
  sees-run : (k : ℕ) → k < length s.order → (a : ℕ) → a < length ws
      → seen_by (column a (take (suc k) s.order)) (get_or s.memory a 0) ≡ after_run (all_accesses (committed_of b) ++ all_accesses (take (suc k) (active_of b))) a (get_or ws a 0)
  sees-run k h a l =
      let column-is : column a (take (suc k) s.order) ≡ map (version_of a) (take (suc k) i.rest) =
      ap (λ (o : List Task). column a (take (suc k) o)) i.tasks ∙ (ap (column a) (take-map task_of (suc k) i.rest) ∙ column-task_of (take (suc k) i.rest) a) in
      ap (λ (c : List Version). seen_by c (get_or s.memory a 0)) column-is
      ∙ (go i.rest (subst (λ (n : ℕ). k < n) (ap length i.tasks ∙ length-map i.rest task_of) h) i.held
      ∙ (sym (after_run-++ (all_accesses i.done) (all_accesses (take (suc k) i.rest)) a (get_or ws a 0))
      ∙ (ap (λ (d : List Entry). after_run (all_accesses d ++ all_accesses (take (suc k) i.rest)) a (get_or ws a 0)) (sym committed-is)
      ∙ ap (λ (r : List Entry). after_run (all_accesses (committed_of b) ++ all_accesses (take (suc k) r)) a (get_or ws a 0)) (sym active-is))))
    where
      go : (rest : List Entry) → k < length rest → Held ws i.done rest s.memory
          → seen_by (map (version_of a) (take (suc k) rest)) (get_or s.memory a 0) ≡ after_run (all_accesses (take (suc k) rest)) a (settled ws i.done a)
      go [] n held = absurd (omega arith)
      go (e ∷ es) n held =
          seen-rest ws i.done s.memory e (take k es) (drop k es) (subst (λ (r : List Entry). Held ws i.done (e ∷ r) s.memory) (sym (take-append-drop k es)) held) a l

-- whatever led from an opening to a state, its reading is sequential and its book mirrors the state
reads-sequentially : (ws : List ℕ) (es : List Event) (s : Plain) → Leads (opened ws) es s → Sequential ws es (memory_words s) × Mirrors ws (book_of es) s
reads-sequentially ws es s l =
    let i = leads-together ws [] (opened ws) es s (opened-together ws) l in (
      record {
        reads = reads-run ws (book_of es) s i;
        squashes = λ before p a w n rest e. leads-exact ws [] (opened ws) before p a w n rest s (opened-together ws) (subst (λ (l : List Event). Leads (opened ws) l s) e l);
        size = i.held.size;
        words = words-run ws (book_of es) s i;
      },
      record {
        tasks = ap (map (λ t. t.on)) i.tasks ∙ (map_on i.rest ∙ ap (map (λ e. e.by)) (sym (active-is ws (book_of es) s i)));
        sees = sees-run ws (book_of es) s i;
      },
    )

leads-++ : (s : Plain) (es : List Event) (t : Plain) (fs : List Event) (u : Plain) → Leads s es t → Leads t fs u → Leads s (es ++ fs) u
leads-++ s [] t fs u l m = subst (λ (x : Plain). Leads x fs u) (sym l) m
leads-++ s (e ∷ es) t fs u l m = (l.0, leads-++ (state_after s e.turn) es t fs u l.1 m)

-- the theorem: it holds of all that the plain store plays
pub reads_on : (s : Plain) (new : List Event) (t : Plain) → Leads s new t → ReadsOn s new t
reads_on s new t l = record {
  leads = l;
  law = λ ws es m k h u n. reads-sequentially ws (es ++ take k new) u (leads-++ (opened ws) es s (take k new) u m n);
}
