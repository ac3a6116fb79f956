use Rattle.std.proofs.Common.{◌≡◌, ◌++◌, drop}
use Rattle.mp_machine.specs.Shown.{all_cells}
use Rattle.mp_machine.proofs.calls.cells_of_all.Given as goal

-- what was copied, and what is left
abbrev pub invariant-operands : goal.invariant-operands
invariant-operands l = l.cells ++ all_cells (drop l.operand-index l.operands) ≡ all_cells l.operands
