use Rattle.std.proofs.Common.{◌≡◌, rules, subst, sym}
use Rattle.mp_machine.specs.FileRows as files
use Rattle.mp_machine.specs.Outcomes.{Done, Outcome}
use Rattle.mp_machine.specs.Shown.{Agrees, state_of}
use Rattle.mp_machine.specs.States.{State}
use Rattle.mp_machine.proofs.ActionLemmas.{then}
use Rattle.mp_machine.proofs.processor.Processor.write_integer_to.Goals as goal

pub returns-clause-row : goal.returns-clause-row
returns-clause-row c paths =
    let s : State = state_of paths c.args.self.now in
    let field : files.integer_field_of c.args.n c.args.width s ≡ Done c.in_ok-field.field s = search (rules, c.in_ok-field.ensures.row paths) in
    subst (λ (o : Outcome (Unit {0})). Agrees o c.write_bytes.result (state_of paths c.write_bytes.new.self))
    (sym (then (λ bytes t. files.write_bytes c.args.a bytes t) field))
    (subst (λ bytes. Agrees (files.write_bytes c.args.a bytes s) c.write_bytes.result (state_of paths c.write_bytes.new.self))
    c.get.ensures (c.write_bytes.ensures.row paths))
