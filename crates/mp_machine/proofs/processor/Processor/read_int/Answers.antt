use Rattle.mp_machine.proofs.processor.Processor.read_int.Goals as goal

pub put_number-requires : goal.put_number-requires
put_number-requires c = c.renew_buffer.ensures.room 1 (c.next_number_at.ensures.room 1 c.in_ok-a.ensures.room)
