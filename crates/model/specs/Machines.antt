-- What a list of commands shows of a store: its plain state, and its bus if it has one.
use Rattle.std.specs.Prelude.{ℕ, cond, List, [], ◌∷◌, ◌++◌, length, drop, Some, None, Option, Ok, Err, Result, ◌==◌}
use Rattle.std.specs.Option.{option_map}
use Rattle.versions.specs.declared.turn.Turn.{Turn}
use Rattle.versions.specs.Plain.{Plain, opened, memory_words, active_tasks, answer_of, state_after, word_of}
use Rattle.snooping.specs.declared.line.Line.{Line}
use Rattle.snooping.specs.declared.report.BusReport.{BusReport}
use Rattle.snooping.specs.Report.{report_after}
use Rattle.snooping.specs.Snooping.{line_answer}
use Rattle.model.specs.declared.command.Asked.{Asked}
use Rattle.model.specs.declared.command.Asked.TheVariants.{Played, Word, Tasks, OneLine, Report}
use Rattle.model.specs.declared.command.UnknownCode.{UnknownCode}
use Rattle.model.specs.declared.command.Command.{Command}
use Rattle.model.specs.declared.command.Reply.{Reply}
use Rattle.model.specs.Commands.{asked_of, number_reply, nothing, answer_reply, line_reply, report_reply}

-- the central buffer has no bus
pub record Seen : Type 0 where
  pub plain : Plain
  pub bus : Option BusReport

abbrev pub seen_of : {S : Type 0} → (S → Plain) → (S → Option BusReport) → S → Seen
seen_of plain bus s = record { plain = plain s; bus = bus s }

-- lines are shown by a store with a bus
abbrev pub line_seen : Option BusReport → Plain → ℕ → ℕ → Option Line
line_seen None s p c = None
line_seen (Some r) s p c = line_answer s p c

-- what the bus reports after a turn
abbrev pub bus_after : Option BusReport → Plain → Turn → Option BusReport
bus_after bus s t = option_map (λ r. report_after r s t) bus

abbrev pub reply_to : Seen → Result Asked UnknownCode → Reply
reply_to m (Ok (Played t)) = answer_reply (answer_of m.plain t)
reply_to m (Ok (Word a)) = answer_reply (word_of m.plain a)
reply_to m (Ok Tasks) = number_reply (active_tasks m.plain)
reply_to m (Ok (OneLine p c)) = line_reply (line_seen m.bus m.plain p c)
reply_to m (Ok Report) = report_reply m.bus
reply_to m (Err e) = nothing

-- only a turn changes anything
abbrev pub seen_after : Seen → Result Asked UnknownCode → Seen
seen_after m (Ok (Played t)) = record { plain = state_after m.plain t; bus = bus_after m.bus m.plain t }
seen_after m (Ok (Word a)) = m
seen_after m (Ok Tasks) = m
seen_after m (Ok (OneLine p c)) = m
seen_after m (Ok Report) = m
seen_after m (Err e) = m

-- commands one after another
abbrev pub replies_to : Seen → List Command → List Reply
replies_to m [] = []
replies_to m (c ∷ cs) = reply_to m (asked_of c) ∷ replies_to (seen_after m (asked_of c)) cs

abbrev pub seen_after_all : Seen → List Command → Seen
seen_after_all m [] = m
seen_after_all m (c ∷ cs) = seen_after_all (seen_after m (asked_of c)) cs

-- a store as it is opened
abbrev pub seen_at : Option BusReport → List ℕ → Seen
seen_at bus ws = record { plain = opened ws; bus = bus }

-- the replies after a run of which this is told, and the words: a refused run leaves both as they were
abbrev pub replies_after : ℕ → Seen → List Command → List Reply → List Reply
replies_after told m cs rs = cond (told == 0) (replies_to m cs ++ drop (length cs) rs) rs

abbrev pub words_after : ℕ → Seen → List Command → List ℕ → List ℕ
words_after told m cs ws = cond (told == 0) (memory_words (seen_after_all m cs).plain) ws
