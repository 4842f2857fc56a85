-- What one task has at one address, and what follows from the versions of one address in task order. There is no
-- address and no processor in here: every store speaks of an address through its column of versions.
use Rattle.std.specs.Prelude.{ℕ, suc, ◌+◌, Bool, false, cond, not, ◌||◌, List, [], ◌∷◌, length, is_some, Some, None, Option}
use Rattle.std.specs.Option.{unwrap_or, option_or}
use Rattle.versions.specs.declared.version.Version.{Version}

abbrev pub no_version : Version
no_version = record { mark = false; own = None }

abbrev pub is_own : Version → Bool
is_own v = is_some v.own

-- the task holds the address
abbrev pub is_held : Version → Bool
is_held v = v.mark || is_own v

-- both as a number of two bits: 1 for the mark, 2 for an own word
abbrev pub share_of : Version → ℕ
share_of v = cond v.mark 1 0 + cond (is_own v) 2 0

-- after a load: marked, unless the word is the task's own
abbrev pub with_load : Version → Version
with_load v = record { mark = v.mark || not (is_own v); own = v.own }

-- after a store of w
abbrev pub with_store : ℕ → Version → Version
with_store w v = record { mark = v.mark; own = Some w }

-- the word that a task with this version sees, where it would see w without: its own, else w
abbrev pub laid_over : Version → ℕ → ℕ
laid_over v w = unwrap_or v.own w

-- the word that the last of these tasks sees over the memory's word w: the nearest version's, else w
abbrev pub seen_by : List Version → ℕ → ℕ
seen_by [] w = w
seen_by (v ∷ vs) w = seen_by vs (laid_over v w)

-- how many of the tasks later than a storing one its store squashes: the oldest with a mark that no own word of a
-- task between hides, and all after it
abbrev pub squashed_by : List Version → ℕ
squashed_by [] = 0
squashed_by (v ∷ vs) = cond v.mark (suc (length vs)) (cond (is_own v) 0 (squashed_by vs))

-- the own word of the last of these tasks that has one
abbrev pub nearest_own : List Version → Option ℕ
nearest_own [] = None
nearest_own (v ∷ vs) = option_or (nearest_own vs) v.own
