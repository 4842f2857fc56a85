-- Lists of turns, played one after another.
use Rattle.std.proofs.Common.{◌≡◌, ℕ, zero, suc, ◌+◌, ◌<◌, ◌≤◌, ◌⊎◌, List, [], ◌∷◌, ◌++◌, length, get_or, take, drop, set, Result, sym, refl, ap, ◌∙◌, subst, inl, inr, ⊎_elim, arith}
use Rattle.std.proofs.lemmas.List.{append_assoc, take_more, drop_more, drop_all, set_at, length-take-le}
use Rattle.std.proofs.lemmas.Bool.{cases_lt}
use Rattle.versions.specs.declared.refusal.Refusal.{Refusal}
use Rattle.versions.specs.declared.turn.Turn.{Turn}
use Rattle.versions.specs.Plain.{Plain, answer_of, state_after, answers_of, state_after_all}
use Rattle.versions.specs.Played.{turns_played}
use Rattle.versions.specs.Sequential.{Leads, ReadsOn, paired}
use Rattle.versions.specs.Taken.{ShowsAll}
use Rattle.versions.proofs.Reading.{reads_on}

state_after_all-push : (s : Plain) (ts : List Turn) (t : Turn) → state_after_all s (ts ++ t ∷ []) ≡ state_after (state_after_all s ts) t
state_after_all-push s [] t = refl
state_after_all-push s (u ∷ ts) t = state_after_all-push (state_after s u) ts t

answers_of-push : (s : Plain) (ts : List Turn) (t : Turn) → answers_of s (ts ++ t ∷ []) ≡ answers_of s ts ++ answer_of (state_after_all s ts) t ∷ []
answers_of-push s [] t = refl
answers_of-push s (u ∷ ts) t = ap (λ (rs : List (Result ℕ Refusal)). answer_of s u ∷ rs) (answers_of-push (state_after s u) ts t)

length-answers_of : (s : Plain) (ts : List Turn) → length (answers_of s ts) ≡ length ts
length-answers_of s [] = refl
length-answers_of s (t ∷ ts) = ap suc (length-answers_of (state_after s t) ts)

-- one turn more: u and v are the states before and after it, t the turn at place i
pub state-step : (s : Plain) (ts : List Turn) (i : ℕ) (d : Turn) (u v : Plain) → i < length ts → u ≡ state_after_all s (take i ts) → v ≡ state_after u (get_or ts i d)
    → v ≡ state_after_all s (take (i + 1) ts)
state-step s ts i d u v h u-is v-is =
    v-is ∙ (ap (λ (x : Plain). state_after x (get_or ts i d)) u-is ∙ sym (ap (state_after_all s) (take_more ts i d h) ∙ state_after_all-push s (take i ts) (get_or ts i d)))

-- and what the store shows of it, after what it showed of the turns before
shows-push : {S : Type 0} (state : S → Plain) (show : S → Turn → S → Type 0) (s u v : S) (ts : List Turn) (t : Turn) → ShowsAll state show s ts u → state v ≡ state_after (state u) t → show u t v
    → ShowsAll state show s (ts ++ t ∷ []) v
shows-push state show s u v [] t same after one = (v, subst (λ x. state v ≡ state_after (state x) t) same after, subst (λ x. show x t v) same one, refl)
shows-push state show s u v (r ∷ ts) t all after one = (all.0, all.1, all.2, shows-push state show all.0 u v ts t all.3 after one)

pub shows-step : {S : Type 0} (state : S → Plain) (show : S → Turn → S → Type 0) (s u v : S) (ts : List Turn) (i : ℕ) (d : Turn) → i < length ts → ShowsAll state show s (take i ts) u
    → state v ≡ state_after (state u) (get_or ts i d) → show u (get_or ts i d) v → ShowsAll state show s (take (i + 1) ts) v
shows-step state show s u v ts i d h all after one = subst (λ (l : List Turn). ShowsAll state show s l v) (sym (take_more ts i d h)) (shows-push state show s u v (take i ts) (get_or ts i d) all after one)

-- and its answer r written at its place
pub answers-step : (s : Plain) (ts : List Turn) (rs qs : List (Result ℕ Refusal)) (i : ℕ) (d : Turn) (u : Plain) (r e : Result ℕ Refusal) → i < length ts → i < length rs
    → u ≡ state_after_all s (take i ts) → r ≡ answer_of u (get_or ts i d) → qs ≡ answers_of s (take i ts) ++ drop i rs → set qs i r ≡ answers_of s (take (i + 1) ts) ++ drop (i + 1) rs
answers-step s ts rs qs i d u r e h k u-is r-is qs-is =
    let t = get_or ts i d in
    let front = answers_of s (take i ts) in
    let r-all : r ≡ answer_of (state_after_all s (take i ts)) t = r-is ∙ ap (λ (x : Plain). answer_of x t) u-is in
    ap (λ (l : List (Result ℕ Refusal)). set l i r) (qs-is ∙ ap (λ (l : List (Result ℕ Refusal)). front ++ l) (drop_more rs i e k))
    ∙ (set_at front (get_or rs i e) (drop (i + 1) rs) r i (length-answers_of s (take i ts) ∙ length-take-le i ts (omega arith))
    ∙ (ap (λ (x : Result ℕ Refusal). front ++ x ∷ drop (i + 1) rs) r-all
    ∙ sym (ap (λ (l : List (Result ℕ Refusal)). l ++ drop (i + 1) rs) (ap (answers_of s) (take_more ts i d h) ∙ answers_of-push s (take i ts) t)
    ∙ append_assoc front (answer_of (state_after_all s (take i ts)) t ∷ []) (drop (i + 1) rs))))

-- the first m turns with their answers lead on, where the turns or the places end there
paired-leads : (m : ℕ) (s : Plain) (ts : List Turn) (rs : List (Result ℕ Refusal)) → (length ts ≤ m) ⊎ (rs ≡ [])
    → Leads s (paired ts (answers_of s (take m ts) ++ rs)) (state_after_all s (take m ts))
paired-leads zero s [] rs h = refl
paired-leads zero s (t ∷ ts) rs h =
    ⊎_elim (λ (l : length (t ∷ ts) ≤ zero). absurd (omega arith)) (λ (e : rs ≡ []). subst (λ (x : List (Result ℕ Refusal)). Leads s (paired (t ∷ ts) x) s) (sym e) refl) h
paired-leads (suc m) s [] rs h = refl
paired-leads (suc m) s (t ∷ ts) rs h = (refl, paired-leads m (state_after s t) ts rs (⊎_elim (λ (l : length (t ∷ ts) ≤ suc m). inl (omega arith)) inr h))

pub played-reads-on : (n : ℕ) (s t : Plain) (ts : List Turn) (rs qs : List (Result ℕ Refusal)) → n ≡ turns_played ts rs
    → qs ≡ answers_of s (take n ts) ++ drop n rs → t ≡ state_after_all s (take n ts) → ReadsOn s (paired ts qs) t
played-reads-on n s t ts rs qs count qs-is t-is =
    let ends : (length ts ≤ n) ⊎ (drop n rs ≡ []) =
    ⊎_elim (λ (l : n < length ts). inr (drop_all n rs (omega arith))) (λ (l : length ts ≤ n). inl l) (cases_lt n (length ts)) in
    reads_on s (paired ts qs) t
    (subst (λ (x : List (Result ℕ Refusal)). Leads s (paired ts x) t) (sym qs-is)
    (subst (Leads s (paired ts (answers_of s (take n ts) ++ drop n rs))) (sym t-is) (paired-leads n s ts (drop n rs) ends)))
