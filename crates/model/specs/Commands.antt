-- What the rows of numbers mean that C gives and gets.
use Rattle.std.specs.Prelude.{ℕ, Bool, cond, Some, None, Ok, Err, Option, Result, ◌==◌}
use Rattle.versions.specs.declared.refusal.Refusal.{Refusal}
use Rattle.versions.specs.declared.turn.Turn.TheVariants.{Start, Load, Store, Squash, Commit, Replace}
use Rattle.versions.specs.Refusals.{refusal_number}
use Rattle.snooping.specs.declared.line.Line.{Line}
use Rattle.snooping.specs.declared.report.BusReport.{BusReport}
use Rattle.snooping.specs.Report.{kind_number, supplier_number}
use Rattle.snooping.specs.States.{has_l, has_s}
use Rattle.model.specs.declared.command.Command.{Command}
use Rattle.model.specs.declared.command.Reply.{Reply}
use Rattle.model.specs.declared.command.Asked.{Asked}
use Rattle.model.specs.declared.command.Asked.TheVariants.{Played, Word, Tasks, OneLine, Report}
use Rattle.model.specs.declared.command.UnknownCode.{UnknownCode}

-- what each code asks for
abbrev pub asked_by : ℕ → ℕ → ℕ → ℕ → Result Asked UnknownCode
asked_by code p a w =
    cond (code == 0) (Ok (Played (Start p)))
    (cond (code == 1) (Ok (Played (Load p a)))
    (cond (code == 2) (Ok (Played (Store p a w)))
    (cond (code == 3) (Ok (Played (Squash p)))
    (cond (code == 4) (Ok (Played (Commit p)))
    (cond (code == 5) (Ok (Played (Replace p a)))
    (cond (code == 6) (Ok (Word a))
    (cond (code == 7) (Ok Tasks)
    (cond (code == 8) (Ok (OneLine p a))
    (cond (code == 9) (Ok Report) (Err (record { code = code })))))))))))

abbrev pub asked_of : Command → Result Asked UnknownCode
asked_of c = asked_by c.code c.p c.a c.w

-- a status and five numbers
abbrev pub row : ℕ → ℕ → ℕ → ℕ → ℕ → ℕ → Reply
row s a b c d e = record { status = s; first = a; second = b; third = c; fourth = d; fifth = e }

abbrev pub number_reply : ℕ → Reply
number_reply n = row 0 n 0 0 0 0

abbrev pub nothing : Reply
nothing = row 255 0 0 0 0 0

abbrev pub answer_reply : Result ℕ Refusal → Reply
answer_reply (Ok n) = number_reply n
answer_reply (Err e) = row (refusal_number e) 0 0 0 0 0

abbrev pub bit : Bool → ℕ
bit b = cond b 1 0

-- a processor, or 4 for none
abbrev pub pointer_number : Option ℕ → ℕ
pointer_number None = 4
pointer_number (Some p) = p

abbrev pub line_reply : Option Line → Reply
line_reply None = nothing
line_reply (Some x) = row 0 (bit (has_l x.state)) (bit (has_s x.state)) x.tag x.word (pointer_number x.next)

abbrev pub report_reply : Option BusReport → Reply
report_reply None = nothing
report_reply (Some r) = row 0 (kind_number r.kind) r.address (supplier_number r.supplier) r.invalidated r.written
