use Rattle.std.proofs.Common.{◌≡◌, ◌++◌, take, drop}
use Rattle.model.specs.Machines.{seen_of, replies_to, seen_after_all}
use Rattle.model.proofs.run.carry_out_all.Given as goal

-- the replies to the commands before i are written, and what the rest gives is what all give from the beginning
abbrev pub invariant-loop-i : goal.invariant-loop-i
invariant-loop-i g l =
    let seen = seen_of g.S.VersionStore.plain g.S.Machine.bus in record {
      kept : g.S.VersionStore.sound l.store;
      after : seen_after_all (seen l.store) (drop l.i l.commands) ≡ seen_after_all (seen l.initial.store) l.commands;
      replies : take l.i l.replies ++ replies_to (seen l.store) (drop l.i l.commands) ≡ replies_to (seen l.initial.store) l.commands;
      rest : drop l.i l.replies ≡ drop l.i l.initial.replies;
    }
