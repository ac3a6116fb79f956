use Rattle.mp_machine.proofs.processor.Processor.set_tag.Goals as goal

pub returns-clause-room : goal.returns-clause-room
returns-clause-room c n fits = c.clear_cells.ensures.room n (c.set_cell.ensures.room n fits)
