use Rattle.std.proofs.Common.{◌≡◌, take}
use Rattle.mp_memory.specs.Roots.{laid_over}
use Rattle.mp_memory.proofs.region.lay_over.Given as goal

-- the first of the new cells are laid over
abbrev pub invariant-cells : goal.invariant-cells
invariant-cells l = l.cells.items ≡ laid_over l.fn.cells.items l.offset (take l.i l.new)
