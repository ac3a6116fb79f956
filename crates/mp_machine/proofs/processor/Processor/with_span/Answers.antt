use Rattle.std.proofs.Common.{◌∙◌, rules}
use Rattle.mp_machine.specs.Shown.{state_of}
use Rattle.mp_machine.proofs.ActionLemmas.{then}
use Rattle.mp_machine.proofs.KeptLemmas.{unmoved_two}
use Rattle.mp_machine.proofs.MemberLemmas.{span_shown}
use Rattle.mp_machine.proofs.processor.Processor.with_span.Goals as goal

pub returns-clause-row : goal.returns-clause-row
returns-clause-row c paths =
    then _ (c.in_ok-j.ensures.row paths) ∙ then _ (c.in_ok-i.ensures.row paths) ∙ then _ (c.in_ok-set.ensures.row paths)
    ∙ span_shown c.in_ok-i.i c.in_ok-j.j c.in_ok-set.set c.with_numbers.result (state_of paths c.take_members.new.self)
    (state_of paths c.put_members-2.new.self)
    (search rules) (search rules) (search rules) (search rules) (c.put_members-2.ensures.row paths)

pub returns-clause-kept : goal.returns-clause-kept
returns-clause-kept c =
    unmoved_two c.args.self.now c.take_number.new.self c.put_members-2.new.self c.take_number.ensures.kept
    (unmoved_two c.take_number.new.self c.take_number-2.new.self c.put_members-2.new.self c.take_number-2.ensures.kept
    (unmoved_two c.take_number-2.new.self c.take_members.new.self c.put_members-2.new.self c.take_members.ensures.kept
    c.put_members-2.ensures.kept))

pub returns-then-not-may_be_member-clause-kept : goal.returns-then-not-may_be_member-clause-kept
returns-then-not-may_be_member-clause-kept c =
    unmoved_two c.args.self.now c.take_number.new.self c.take_members.new.self c.take_number.ensures.kept
    (unmoved_two c.take_number.new.self c.take_number-2.new.self c.take_members.new.self c.take_number-2.ensures.kept
    c.take_members.ensures.kept)
