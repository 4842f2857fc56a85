-- The step of copying word by word.
use Rattle.std.proofs.Common.{◌≡◌, ℕ, ◌+◌, ◌<◌, ◌≤◌, List, [], ◌∷◌, ◌++◌, length, get_or, take, drop, set, Ok, sym, ap, ◌∙◌, arith}
use Rattle.std.proofs.lemmas.List.{length-append, length-take-le, length-drop, take_more, drop_more, set_at, append_assoc}
use Rattle.std.proofs.lemmas.Bool.Decides.{nat_tests}
use Rattle.memory.specs.Words.{read_answer, written_words}
use Rattle.memory.specs.Client.{copied}

length-copied : (ws vs : List ℕ) (a : ℕ) → a ≤ length ws → a ≤ length vs → length (copied a ws vs) ≡ length vs
length-copied ws vs a h k = rw (length-append (take a ws) (drop a vs), length-take-le a ws h, length-drop a vs) (omega arith)

copied_more : (ws vs : List ℕ) (a : ℕ) → a < length ws → a < length vs → set (copied a ws vs) a (get_or ws a 0) ≡ copied (a + 1) ws vs
copied_more ws vs a h k =
    ap (λ (xs : List ℕ). set (take a ws ++ xs) a (get_or ws a 0)) (drop_more vs a 0 k)
    ∙ (set_at (take a ws) (get_or vs a 0) (drop (a + 1) vs) (get_or ws a 0) a (length-take-le a ws (omega arith))
    ∙ sym (ap (λ (xs : List ℕ). xs ++ drop (a + 1) vs) (take_more ws a 0 h) ∙ append_assoc (take a ws) (get_or ws a 0 ∷ []) (drop (a + 1) vs)))

-- one word more is copied: fs are the words read from, us and xs those written to, before and after
pub copy_step : (ws vs fs us xs : List ℕ) (a w : ℕ) → a < length ws → a < length vs → fs ≡ ws → us ≡ copied a ws vs
    → Ok w ≡ read_answer fs a → xs ≡ written_words us a w → xs ≡ copied (a + 1) ws vs
copy_step ws vs fs us xs a w h k same us-is read xs-is =
    let more = copied_more ws vs a h k in
    let long = length-copied ws vs a (omega arith) (omega arith) in
    grind (arith, nat_tests, more, long)
