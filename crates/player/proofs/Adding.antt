-- Answers added to a list, one for each turn that is played.
use Rattle.std.proofs.Common.{◌≡◌, ℕ, suc, ◌+◌, ◌-◌, ◌<◌, ◌≤◌, true, false, cond, List, [], ◌∷◌, ◌++◌, length, get_or, take, drop, set, Err, Result, sym, refl, ap, ◌∙◌, subst, arith}
use Rattle.std.proofs.Math.Seq.{drop-append_seam}
use Rattle.std.proofs.lemmas.List.{append_assoc, take_more, length-take-le, length-append}
use Rattle.std.proofs.lemmas.Bool.{cond-true, cond-false, leb-true, leb-false, lt-ltb}
use Rattle.versions.specs.declared.refusal.Refusal.{Refusal}
use Rattle.versions.specs.declared.turn.Turn.{Turn}
use Rattle.versions.specs.Plain.{Plain, answer_of, state_after, answers_of, state_after_all}
use Rattle.versions.specs.Sequential.{Leads, ReadsOn, paired}
use Rattle.versions.proofs.Reading.{reads_on}
use Rattle.player.specs.declared.fault.ListFault.TheVariants.{Full}
use Rattle.player.specs.declared.fault.PlayerFault.{PlayerFault}
use Rattle.player.specs.declared.fault.PlayerFault.TheVariants.{Results}
use Rattle.player.specs.Lists.{is_full, pushed}
use Rattle.player.specs.Scripts.{places_answer, told}
use Rattle.player.specs.Text.{written}

answers_of-push : (s : Plain) (ts : List Turn) (t : Turn) → answers_of s (ts ++ t ∷ []) ≡ answers_of s ts ++ answer_of (state_after_all s ts) t ∷ []
answers_of-push s [] t = refl
answers_of-push s (u ∷ ts) t = ap (λ (rs : List (Result ℕ Refusal)). answer_of s u ∷ rs) (answers_of-push (state_after s u) ts t)

pub length-answers_of : (s : Plain) (ts : List Turn) → length (answers_of s ts) ≡ length ts
length-answers_of s [] = refl
length-answers_of s (t ∷ ts) = ap suc (length-answers_of (state_after s t) ts)

-- one turn more and its answer
pub answers-more : (s : Plain) (ts : List Turn) (i : ℕ) (d : Turn) (u : Plain) (r : Result ℕ Refusal) → i < length ts
    → u ≡ state_after_all s (take i ts) → r ≡ answer_of u (get_or ts i d) → answers_of s (take (i + 1) ts) ≡ answers_of s (take i ts) ++ r ∷ []
answers-more s ts i d u r h u-is r-is =
    ap (answers_of s) (take_more ts i d h)
    ∙ (answers_of-push s (take i ts) (get_or ts i d)
    ∙ ap (λ (x : Result ℕ Refusal). answers_of s (take i ts) ++ x ∷ []) (sym (r-is ∙ ap (λ (x : Plain). answer_of x (get_or ts i d)) u-is)))

written-push : {X : Type 0} (row : List X) (at : ℕ) (xs : List X) (x : X) → written row at (xs ++ x ∷ []) ≡ set (written row at xs) (at + length xs) x
written-push row at [] x = ap (λ (k : ℕ). set row k x) (omega arith)
written-push row at (y ∷ xs) x = written-push (set row at y) (at + 1) xs x ∙ ap (λ (k : ℕ). set (written (set row at y) (at + 1) xs) k x) (omega arith)

-- where a list that has xs₀ and then i answers is not full, another one has its place
pub one-added : {X : Type 0} (xs₀ row₀ new : List X) (n i : ℕ) (xs row : List X) (x : X) → length new ≡ i → is_full xs n ≡ false
    → xs ≡ xs₀ ++ new → row ≡ written row₀ (length xs₀) new
    → (pushed xs n x ≡ xs₀ ++ (new ++ x ∷ [])) × (cond (is_full xs n) row (set row (length xs) x) ≡ written row₀ (length xs₀) (new ++ x ∷ [])) × (i + 1 ≤ n - length xs₀)
one-added {X = X} xs₀ row₀ new n i xs row x many not_full xs-is row_is =
    let size : length xs ≡ length xs₀ + length new = ap length xs-is ∙ length-append xs₀ new in
    let less : length xs < n = leb-false n (length xs) not_full in (
      cond-false _ _ _ not_full ∙ (ap (λ (l : List X). l ++ x ∷ []) xs-is ∙ append_assoc xs₀ new (x ∷ [])),
      cond-false _ _ _ not_full ∙ (ap (λ (l : List X). set l (length xs) x) row_is
          ∙ (ap (λ (k : ℕ). set (written row₀ (length xs₀) new) k x) size ∙ sym (written-push row₀ (length xs₀) new x))),
      omega (arith, size, less, many),
    )

-- where it is full, all places are taken
pub all-added : {X : Type 0} (xs₀ new : List X) (n i : ℕ) (xs : List X) → length new ≡ i → is_full xs n ≡ true → xs ≡ xs₀ ++ new → i ≤ n - length xs₀ → i ≡ n - length xs₀
all-added xs₀ new n i xs many full xs-is bound =
    let size : length xs ≡ length xs₀ + length new = ap length xs-is ∙ length-append xs₀ new in
    omega (arith, size, leb-true n (length xs) full, many, bound)

pub length-played : (s : Plain) (ts : List Turn) (i : ℕ) → i ≤ length ts → length (answers_of s (take i ts)) ≡ i
length-played s ts i h = length-answers_of s (take i ts) ∙ length-take-le i ts h

-- the fault of the first turn without a place
pub no_place : (places i n : ℕ) (ts : List Turn) → i < length ts → i ≡ places → ◌≡◌ {A = Result ℕ PlayerFault} (Err (Results Full i)) (told (places_answer places ts) n)
no_place places i n ts h e =
    ap (λ (k : ℕ). Err (Results Full k)) e
    ∙ ap (λ (r : Result (Unit {0}) PlayerFault). told r n) (sym (cond-true _ _ _ (lt-ltb places (length ts) (omega arith))))

leads-all : (s : Plain) (ts : List Turn) → Leads s (paired ts (answers_of s ts)) (state_after_all s ts)
leads-all s [] = refl
leads-all s (t ∷ ts) = (refl, leads-all (state_after s t) ts)

-- turns whose answers a list has gained were read sequentially
pub gained-reads-on : (s t : Plain) (ts : List Turn) (xs₀ xs : List (Result ℕ Refusal)) → xs ≡ xs₀ ++ answers_of s ts → t ≡ state_after_all s ts
    → ReadsOn s (paired ts (drop (length xs₀) xs)) t
gained-reads-on s t ts xs₀ xs xs-is t-is =
    let new : drop (length xs₀) xs ≡ answers_of s ts = ap (drop (length xs₀)) xs-is ∙ drop-append_seam xs₀ (answers_of s ts) in
    reads_on s (paired ts (drop (length xs₀) xs)) t
    (subst (λ (x : List (Result ℕ Refusal)). Leads s (paired ts x) t) (sym new)
    (subst (Leads s (paired ts (answers_of s ts))) (sym t-is) (leads-all s ts)))
