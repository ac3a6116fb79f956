use Rattle.std.proofs.Common.{◌∙◌, rules}
use Rattle.mp_machine.specs.Shown.{state_of}
use Rattle.mp_machine.proofs.ActionLemmas.{then}
use Rattle.mp_machine.proofs.MemberLemmas.{one_shown}
use Rattle.mp_machine.proofs.processor.Processor.with_one.Goals as goal

pub returns-clause-row : goal.returns-clause-row
returns-clause-row c paths =
    then _ (c.in_ok-i.ensures.row paths) ∙ then _ (c.in_ok-set.ensures.row paths)
    ∙ one_shown c.in_ok-i.i c.in_ok-set.set c.with_number.result (state_of paths c.take_members.new.self)
    (state_of paths c.put_members.new.self)
    (search rules) (search rules) (c.put_members.ensures.row paths)
