use Rattle.std.proofs.Common.{◌∙◌, rules, subst, sym}
use Rattle.mp_machine.specs.FileRows as files
use Rattle.mp_machine.specs.Outcomes.{Outcome}
use Rattle.mp_machine.specs.Shown.{Agrees, state_of}
use Rattle.mp_machine.proofs.ActionLemmas.{then}
use Rattle.mp_machine.proofs.processor.Processor.write_truth.Goals as goal

pub returns-clause-row : goal.returns-clause-row
returns-clause-row c paths =
    let last : Agrees (files.write_truth_to c.in_ok-a.a c.in_ok-n.n c.in_ok-width.width (state_of paths c.take_address.new.self))
    c.write_truth_to.result (state_of paths c.write_truth_to.new.self) = search (rules, c.write_truth_to.ensures.row paths) in
    subst (λ (o : Outcome (Unit {0})). Agrees o c.write_truth_to.result (state_of paths c.write_truth_to.new.self))
    (sym (then _ (c.in_ok-width.ensures.row paths) ∙ then _ (c.in_ok-n.ensures.row paths) ∙ then _ (c.in_ok-a.ensures.row paths)))
    last
