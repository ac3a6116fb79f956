use Rattle.mp_machine.proofs.processor.Processor.get_at.Goals as goal

pub returns-clause-room : goal.returns-clause-room
returns-clause-room c n fits = c.renew_buffer.ensures.room n (c.get_next_at.ensures.room n fits)
