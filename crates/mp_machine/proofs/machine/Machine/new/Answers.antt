use Rattle.std.proofs.Common.{◌≡◌, ◌∙◌, Option, ap, rules}
use Rattle.std.specs.Arc.{arc_value}
use Rattle.mp_code.specs.BlockCode.{BlockCode}
use Rattle.mp_machine.specs.declared.answers.Gone.{Gone}
use Rattle.mp_machine.specs.Loads.{paths_of}
use Rattle.mp_machine.specs.Machines.{answer_if}
use Rattle.mp_machine.specs.States.{State}
use Rattle.mp_machine.specs.Steps.{Machine, first_state, over_at_start, program_alone}
use Rattle.mp_machine.proofs.machine.Machine.new.Goals as goal

pub returns-clause-machine : goal.returns-clause-machine
returns-clause-machine c =
    let whole : State → Machine = λ s. record { state = s; over = answer_if s c.first_over-over.result } in
    let of_code : BlockCode → Machine = λ code. whole (first_state code c.args.input.now) in
    let first : State = first_state (arc_value c.args.main) c.args.input.now in
    let with_answer : Option Gone → Machine = λ o. record { state = first; over = o } in
    let codes : c.add.new.self ≡ program_alone (arc_value c.args.main) = search rules in
    ap whole (c.in_ok-processor.ensures.state (paths_of c.add.new.self) (ap (λ l. paths_of l 0) codes))
    ∙ ap of_code c.deref.ensures
    ∙ ap with_answer (c.first_over-over.ensures.answer first ∙ ap (λ code. over_at_start code first) c.deref-2.ensures)
