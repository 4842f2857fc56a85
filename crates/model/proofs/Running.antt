-- The size of a store's memory stays, whatever commands are carried out.
use Rattle.std.proofs.Common.{◌≡◌, List, [], ◌∷◌, length, Some, None, Option, Ok, Err, Result, refl, ◌∙◌}
use Rattle.versions.specs.declared.refusal.Refusal.{Refusal}
use Rattle.versions.specs.declared.turn.Turn.{Turn}
use Rattle.versions.specs.declared.turn.Turn.TheVariants.{Start, Load, Store, Squash, Commit, Replace}
use Rattle.versions.specs.Plain.{Plain, task_on, memory_words, refusal_of, moved, unless_refused, state_after}
use Rattle.versions.proofs.Holding.{length-laid_over_all, length-written_to}
use Rattle.model.specs.declared.command.Asked.{Asked}
use Rattle.model.specs.declared.command.Asked.TheVariants.{Played, Word, Tasks, OneLine, Report}
use Rattle.model.specs.declared.command.UnknownCode.{UnknownCode}
use Rattle.model.specs.declared.command.Command.{Command}
use Rattle.model.specs.Commands.{asked_of}
use Rattle.model.specs.Machines.{Seen, seen_after, seen_after_all}

size-unless : (o : Option Refusal) (s later : Plain) → length (memory_words later) ≡ length (memory_words s) → length (memory_words (unless_refused o s later)) ≡ length (memory_words s)
size-unless None s later h = h
size-unless (Some e) s later h = refl

size-moved : (s : Plain) (t : Turn) → length (memory_words (moved s t)) ≡ length (memory_words s)
size-moved s (Start p) = refl
size-moved s (Load p a) = refl
size-moved s (Store p a w) = refl
size-moved s (Squash p) = refl
size-moved s (Commit p) = length-laid_over_all (task_on p s.order).at s.memory
size-moved s (Replace p a) = length-written_to ((task_on p s.order).at a).own a s.memory

size-turn : (s : Plain) (t : Turn) → length (memory_words (state_after s t)) ≡ length (memory_words s)
unfolding state_after
size-turn s t = size-unless (refusal_of s t) s (moved s t) (size-moved s t)

size-asked : (m : Seen) (x : Result Asked UnknownCode) → length (memory_words (seen_after m x).plain) ≡ length (memory_words m.plain)
size-asked m (Ok (Played t)) = size-turn m.plain t
size-asked m (Ok (Word a)) = refl
size-asked m (Ok Tasks) = refl
size-asked m (Ok (OneLine p c)) = refl
size-asked m (Ok Report) = refl
size-asked m (Err e) = refl

pub size_stays : (m : Seen) (cs : List Command) → length (memory_words (seen_after_all m cs).plain) ≡ length (memory_words m.plain)
size_stays m [] = refl
size_stays m (c ∷ cs) = size_stays (seen_after m (asked_of c)) cs ∙ size-asked m (asked_of c)
