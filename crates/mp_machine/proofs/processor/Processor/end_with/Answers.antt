use Rattle.mp_machine.proofs.processor.Processor.end_with.Goals as goal

pub put_cell-requires : goal.put_cell-requires
put_cell-requires c = c.end_newest.ensures.room 1 c.requires.room
