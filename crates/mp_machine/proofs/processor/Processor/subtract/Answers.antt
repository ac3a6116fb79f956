use Rattle.mp_machine.proofs.KeptLemmas.{unmoved_two}
use Rattle.mp_machine.proofs.processor.Processor.subtract.Goals as goal

pub returns-clause-kept : goal.returns-clause-kept
returns-clause-kept c =
    unmoved_two c.args.self.now c.take_number.new.self c.put_integer.new.self c.take_number.ensures.kept
    (unmoved_two c.take_number.new.self c.take_number-2.new.self c.put_integer.new.self c.take_number-2.ensures.kept
    c.put_integer.ensures.kept)
