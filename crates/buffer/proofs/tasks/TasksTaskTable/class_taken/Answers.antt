use Rattle.std.proofs.Common.{◌≡◌, ℕ, ◌%◌, true, false, not, is_some, Some, None, Option, sym, refl, ap, ◌∙◌, subst}
use Rattle.std.proofs.lemmas.Bool.{eq-eqb, ne_eqb, true≢false}
use Rattle.versions.specs.declared.version.Version.{Version}
use Rattle.versions.specs.Versions.{is_held}
use Rattle.versions.specs.Tables.{task_by, HeldIn}
use Rattle.versions.proofs.Classes.{taken_by, class-taken}
use Rattle.buffer.specs.Tasks.{table_of}
use Rattle.buffer.proofs.tasks.TasksTaskTable.class_taken.Goals as goal

-- where a is not held, what is held of its class is another address
other-held : (at : ℕ → Version) (a : ℕ) (o : Option ℕ) → is_held (at a) ≡ false → HeldIn at (a % 16) o → is_some o ≡ taken_by o a
other-held at a None free h = refl
other-held at a (Some b) free h = sym (ap not (ne_eqb b a (λ e. true≢false (sym h.1 ∙ (ap (λ (x : ℕ). is_held (at x)) e ∙ free)))))

pub returns-then-not-holds : goal.returns-then-not-holds
returns-then-not-holds c = λ n fits.
    let p = c.args.p in
    let a = c.args.a in
    let table = table_of c.args.self.now in
    let class = subst (λ (k : ℕ). HeldIn (table p) k c.held_apart.result) c.of.ensures c.held_apart.ensures in
    let free : is_held (table p a) ≡ false = sym c.holds.ensures ∙ c.if-not-holds.true in
    c.is_some.ensures ∙ (other-held (table p) a c.held_apart.result free class ∙ class-taken (task_by table p) a n c.held_apart.result class (fits.inside p) (fits.one p))

pub returns-else-not-holds : goal.returns-else-not-holds
returns-else-not-holds c = λ n fits.
    let p = c.args.p in
    let a = c.args.a in
    let table = table_of c.args.self.now in
    let held : is_held (table p a) ≡ true = sym c.holds.ensures ∙ c.if-not-holds.false in
    ap not c.if-not-holds.false ∙ (sym (ap not (eq-eqb a a refl)) ∙ class-taken (task_by table p) a n (Some a) (refl, held) (fits.inside p) (fits.one p))
