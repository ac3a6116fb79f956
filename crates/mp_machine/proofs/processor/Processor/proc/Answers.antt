use Rattle.mp_machine.proofs.processor.Processor.proc.Goals as goal

pub put_cell-requires-in-None : goal.put_cell-requires-in-None
put_cell-requires-in-None c = c.add_block.ensures.room 1 c.requires
