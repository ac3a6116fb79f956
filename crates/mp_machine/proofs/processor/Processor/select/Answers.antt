use Rattle.mp_machine.proofs.processor.Processor.select.Goals as goal

pub put_reference-requires-2 : goal.put_reference-requires-2
put_reference-requires-2 c = c.set_tag.ensures.room 1 c.in_ok-a.ensures.room
