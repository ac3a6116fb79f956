use Rattle.mp_machine.proofs.processor.Processor.read_char.Goals as goal

pub put_cell-requires : goal.put_cell-requires
put_cell-requires c = c.get_at.ensures.room 1 c.in_ok-a.ensures.room
