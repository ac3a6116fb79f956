use Rattle.std.proofs.Common.{◌≡◌, replicate}
use Rattle.mp_memory.specs.declared.cells.Cell.TheVariants.{Undef}
use Rattle.mp_memory.proofs.region.undefined_cells.Given as goal

abbrev pub invariant-cells : goal.invariant-cells
invariant-cells l = l.cells.items ≡ replicate l.counter Undef
