-- One line, and the lines of one cache.
use Rattle.std.specs.Prelude.{ℕ, cond, List, is_some, Some, None, Option, ◌==◌, slice_index_or}
use Rattle.snooping.specs.declared.cache.Cache.{Cache}
use Rattle.snooping.specs.declared.line.Line.{Line}
use Rattle.snooping.specs.declared.state.LineState.TheVariants.{Invalid}
use Rattle.snooping.specs.declared.state.LineEvent.{LineEvent}
use Rattle.snooping.specs.States.{has_l, has_s, next_state}
use Rattle.versions.specs.declared.version.Version.{Version}
use Rattle.versions.specs.Orders.{place_in}
use Rattle.versions.specs.Versions.{no_version}

-- an invalid line has no tag, word or pointer
abbrev pub blank : Line
blank = record { state = Invalid; tag = 0; word = 0; next = None }

-- the lines of a cache, one for each class, and line c of them; contracts cite these, since the field is private
abbrev pub cache_lines : Cache → List Line
cache_lines x = x.lines

abbrev pub cache_line : Cache → ℕ → Line
cache_line x c = slice_index_or (cache_lines x) c blank

-- the version that a line holds, and that of address b in it
abbrev pub version_in : Line → Version
version_in x = record { mark = has_l x.state; own = cond (has_s x.state) (Some x.word) None }

abbrev pub version_at : Line → ℕ → Version
version_at x b = cond (x.tag == b) (version_in x) no_version

-- after an access of a with the word w, which is a load that gave w or a store of w; and with another pointer
abbrev pub with_taken : LineEvent → Line → ℕ → ℕ → Line
with_taken e x a w = record { state = next_state x.state e; tag = a; word = w; next = x.next }

abbrev pub with_next : Line → Option ℕ → Line
with_next x n = record { state = x.state; tag = x.tag; word = x.word; next = n }

-- after an event that ends what the line holds
abbrev pub ended : LineEvent → Line → Line
ended e x = record { state = next_state x.state e; tag = 0; word = 0; next = None }

-- without a pointer to a processor that is none of ps
abbrev pub pointer_to : List ℕ → Option ℕ → Option ℕ
pointer_to ps None = None
pointer_to ps (Some q) = cond (is_some (place_in ps q)) (Some q) None

abbrev pub unlinked : List ℕ → Line → Line
unlinked ps x = with_next x (pointer_to ps x.next)
