-- Scripts that are performed from an opening on.
use Rattle.std.proofs.Common.{◌≡◌, ℕ, List, [], length, Err, Result, sym, refl, subst}
use Rattle.std.proofs.lemmas.List.{append-nil}
use Rattle.versions.specs.Plain.{Plain, opened, memory_words}
use Rattle.player.specs.declared.fault.PlayerFault.TheVariants.{Image}
use Rattle.player.specs.declared.play.Lists.{Lists}
use Rattle.player.specs.Faults.{ImageFault}
use Rattle.player.specs.Image.{load_answer, loaded_words}
use Rattle.player.specs.Lists.{content}
use Rattle.player.specs.Scripts.{Performed, PlayedFrom, script_after, script_of}
use Rattle.player.proofs.Adding.{gained-reads-on}

-- an image that is refused
nothing-performed : (s : Plain) (e : ImageFault) (l : Lists) (vs : List ℕ) → vs ≡ memory_words s
    → Performed s (record { read = []; played = []; answer = Err (Image e) }) l l (Err (Image e)) vs
nothing-performed s e l vs words =
    record {
      outcome = refl;
      turns = (sym (append-nil (content l.turns)), refl, refl);
      answers = (sym (append-nil (content l.answers)), refl, refl);
      words = words;
      sequential = gained-reads-on s s [] (content l.answers) (content l.answers) (sym (append-nil (content l.answers))) refl;
    }

pub refused-performed : (ws image text : List ℕ) (e : ImageFault) (l : Lists) (vs : List ℕ)
    → Err e ≡ load_answer (length ws) image → vs ≡ loaded_words ws image
    → PlayedFrom ws image text l l (Err (Image e)) vs
refused-performed ws image text e l vs refused words =
    subst (λ (x : Result (Unit {0}) ImageFault). Performed (opened (loaded_words ws image)) (script_after x (script_of l text)) l l (Err (Image e)) vs) refused
    (nothing-performed (opened (loaded_words ws image)) e l vs words)
