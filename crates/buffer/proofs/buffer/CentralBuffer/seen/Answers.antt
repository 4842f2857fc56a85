use Rattle.std.proofs.Common.{ℕ, ◌+◌, get_or, take, Ok, Option, unwrap_or, sym, ap, ◌∙◌}
use Rattle.buffer.specs.Tasks.{versions_at}
use Rattle.versions.proofs.Serving.{read-inside}
use Rattle.versions.proofs.Stepping.{seen-nearest}
use Rattle.buffer.proofs.buffer.CentralBuffer.seen.Goals as goal

pub returns-in-Some-clause-answer : goal.returns-in-Some-clause-answer
returns-in-Some-clause-answer g c =
    let b = c.args.self.now in
    let vs = versions_at b.tasks c.args.a (take (c.args.k + 1) b.tasks.order) in
    let w = get_or (g.M.Memory.words b.memory) c.args.a 0 in
    ap Ok (ap (λ (o : Option ℕ). unwrap_or o w) c.in-Some.ensures ∙ sym (seen-nearest vs w))

pub returns-in_ok-read-in-None-clause-answer : goal.returns-in_ok-read-in-None-clause-answer
returns-in_ok-read-in-None-clause-answer g c =
    let b = c.args.self.now in
    let vs = versions_at b.tasks c.args.a (take (c.args.k + 1) b.tasks.order) in
    let ws = g.M.Memory.words b.memory in
    let w = get_or ws c.args.a 0 in
    ap Ok (read-inside ws c.args.a c.in_ok-read-in-None.field-0 c.requires.a_in_bounds c.in_ok-read-in-None.ensures.answer
    ∙ (ap (λ (o : Option ℕ). unwrap_or o w) c.in-None.ensures ∙ sym (seen-nearest vs w)))
