use Rattle.std.proofs.Common.{Err, ap, ◌∙◌, rules}
use Rattle.std.proofs.lemmas.Result.{err_from_is_err_and}
use Rattle.std.proofs.lemmas.Bool.{true≢false}
use Rattle.memory.specs.Second.{lines_over, cached_of}
use Rattle.memory.proofs.Caching.{fetch-refused, fetch-done}
use Rattle.memory.proofs.second.SecondLevel.fetch.Goals as goal

pub returns-in_err-word-clause-answer : goal.returns-in_err-word-clause-answer
returns-in_err-word-clause-answer g c =
    let is = err_from_is_err_and c.from_residual.result c.from_residual.ensures.1 in
    is.1 ∙ (ap Err is.2 ∙ fetch-refused (cached_of g.M.Memory.words c.args.self.now) c.args.a _ c.in_err-word.ensures.answer)

pub returns : goal.returns
returns g c =
    let before = cached_of g.M.Memory.words c.args.self.now in
    let read = lines_over c.args.self.now.lines (g.M.Memory.words c.read.new.self) in
    let after = cached_of g.M.Memory.words c.set_line.new.self in
    let law = fetch-done before read after c.args.a c.in_ok-word.word c.requires.sound.1 c.requires.missed
    (ap (lines_over c.args.self.now.lines) c.read.ensures.after) c.in_ok-word.ensures.answer c.set_line.ensures.cached in
    record { answer = law.answer; after = law.after; refused = λ no. absurd (true≢false no); beside = c.set_line.ensures.beside ∙ c.read.ensures.beside; kept = (c.set_line.ensures.kept, law.kept); cached = search rules }
