use Rattle.std.proofs.Common.{◌≡◌, replicate}
use Rattle.mp_memory.specs.declared.cells.Cell.TheVariants.{Undef}
use Rattle.mp_memory.specs.Roots.{laid_over}
use Rattle.mp_memory.proofs.region.clear.Given as goal

-- the first of the cells are undefined
abbrev pub invariant-cells : goal.invariant-cells
invariant-cells l = l.cells.items ≡ laid_over l.fn.cells.items l.offset (replicate l.i Undef)
