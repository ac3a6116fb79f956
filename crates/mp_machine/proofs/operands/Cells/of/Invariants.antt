use Rattle.std.proofs.Common.{◌≡◌, take}
use Rattle.mp_machine.proofs.operands.Cells.of.Given as goal

abbrev pub invariant-cells : goal.invariant-cells
invariant-cells l = l.items.items ≡ take l.cell-index l.cells
