use Rattle.std.proofs.Common.{◌≡◌, ◌++◌, take}
use Rattle.mp_machine.proofs.operands.Cells.append.Given as goal

abbrev pub invariant-cells : goal.invariant-cells
invariant-cells l = l.self-inside.items.items ≡ l.initial.self-inside.items.items ++ take l.cell-index l.cells
