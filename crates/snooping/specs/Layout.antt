-- The lines that a state of the plain store determines. What the four caches hold is this, after every turn.
use Rattle.std.specs.Prelude.{ℕ, List, map, length, Some, None, Option, slice_index}
use Rattle.std.specs.List.{range_with_len, find, after_first}
use Rattle.std.specs.Option.{option_map}
use Rattle.versions.specs.declared.version.Version.{Version}
use Rattle.versions.specs.Cuts.{up_to}
use Rattle.versions.specs.Plain.{Task, Plain, is_on, task_on, column}
use Rattle.versions.specs.Tables.{of_class}
use Rattle.versions.specs.Versions.{is_own, is_held, seen_by}
use Rattle.snooping.specs.declared.cache.Cache.{Cache}
use Rattle.snooping.specs.declared.line.Line.{Line}
use Rattle.snooping.specs.Lines.{blank}
use Rattle.snooping.specs.States.{with_bits}

-- the address below n of class c that a task holds
abbrev pub held_in : (ℕ → Version) → ℕ → ℕ → Option ℕ
held_in at c n = of_class (λ a. is_held (at a)) c n

-- the processor of the first of these tasks that holds a
abbrev pub next_holder : ℕ → List Task → Option ℕ
next_holder a ts = option_map (λ t. t.on) (find (λ t. is_held (t.at a)) ts)

-- p's line for an address that its task holds: L is the mark, S says that the word is own; the word is the own word, else
-- that of the nearest earlier version, else the memory's; the pointer names the next task in order that holds the address
abbrev pub line_for : Plain → ℕ → Option ℕ → Line
line_for s p None = blank
line_for s p (Some a) =
    record {
      state = with_bits ((task_on p s.order).at a).mark (is_own ((task_on p s.order).at a));
      tag = a;
      word = seen_by (column a (up_to (is_on p) s.order)) (slice_index s.memory a);
      next = next_holder a (after_first (is_on p) s.order);
    }

-- line c of processor p
abbrev pub line_of : Plain → ℕ → ℕ → Line
line_of s p c = line_for s p (held_in (task_on p s.order).at c (length s.memory))

-- the 16 lines of each of the four processors
unfoldable pub lines_of : Plain → List Cache
lines_of s = map (λ p. record { lines = map (line_of s p) (range_with_len 0 16) }) (range_with_len 0 4)
