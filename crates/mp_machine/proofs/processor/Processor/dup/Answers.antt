use Rattle.mp_machine.proofs.processor.Processor.dup.Goals as goal

pub put_cell-requires-2 : goal.put_cell-requires-2
put_cell-requires-2 c = c.put_cell.ensures.room 1 (c.in_ok-x.ensures.more 1 c.requires)
