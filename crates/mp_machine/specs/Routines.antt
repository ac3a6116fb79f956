-- The procedural value of an operand; only private functions cite this.
use Rattle.std.specs.Prelude.{List, Option, Some, None}
use Rattle.mp_memory.specs.declared.cells.Cell.{Cell}
use Rattle.mp_memory.specs.declared.cells.Cell.TheVariants as cell
use Rattle.mp_machine.specs.declared.calls.Routine.{Routine}
use Rattle.mp_machine.specs.declared.operands.Operand.{Operand}
use Rattle.mp_machine.specs.declared.operands.Operand.TheVariants.{One}
use Rattle.mp_machine.specs.CallRows.{as_routine, call_routine}
use Rattle.mp_machine.specs.Operands.{as_cell}
use Rattle.mp_machine.specs.Outcomes.{Row, ◌>>=◌}
use Rattle.mp_machine.specs.States.{Codes}

abbrev pub routine_in : Operand → Option Routine
routine_in (One (cell.Code block act)) = Some (record { block = block; act = act })
routine_in _ = None

-- the call, where its cells and the operand below them are taken
abbrev pub call_of : Codes → List Cell → Operand → Row
call_of codes cells x = do
  c ← as_cell x
  routine ← as_routine c
  call_routine codes cells routine
