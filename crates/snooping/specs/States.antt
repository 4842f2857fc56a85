-- The state of a line is its two bits: L, the task's mark, and S, which says that the word is the task's own.
use Rattle.std.specs.Prelude.{Bool, true, false, cond, not, ◌||◌}
use Rattle.snooping.specs.declared.state.LineState.{LineState}
use Rattle.snooping.specs.declared.state.LineState.TheVariants.{Invalid, Loaded, Stored, Both}
use Rattle.snooping.specs.declared.state.LineEvent.{LineEvent}
use Rattle.snooping.specs.declared.state.LineEvent.TheVariants.{Load, Store, Squash, Commit, Replace}

abbrev pub has_l : LineState → Bool
has_l Invalid = false
has_l Loaded = true
has_l Stored = false
has_l Both = true

abbrev pub has_s : LineState → Bool
has_s Invalid = false
has_s Loaded = false
has_s Stored = true
has_s Both = true

-- the state with these bits
abbrev pub with_bits : Bool → Bool → LineState
with_bits l s = cond l (cond s Both Loaded) (cond s Stored Invalid)

-- a load sets L unless the word is own, a store sets S and leaves L, and the other events leave nothing
abbrev pub next_state : LineState → LineEvent → LineState
next_state x Load = with_bits (has_l x || not (has_s x)) (has_s x)
next_state x Store = with_bits (has_l x) true
next_state x Squash = Invalid
next_state x Commit = Invalid
next_state x Replace = Invalid
