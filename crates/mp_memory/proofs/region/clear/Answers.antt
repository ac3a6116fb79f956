use Rattle.std.proofs.Common.{arith, ap, ◌∙◌, slice_set, ◌+◌}
use Rattle.mp_memory.specs.declared.cells.Cell.TheVariants.{Undef}
use Rattle.mp_memory.proofs.LaidLemmas.{clear_more}
use Rattle.mp_memory.proofs.region.clear.Goals as goal

pub cells-preserved : goal.cells-preserved
cells-preserved c =
    ap (λ l. slice_set l (c.args.offset + c.cells.i) Undef) c.cells.invariant
    ∙ clear_more c.args.cells.now.items c.args.offset c.cells.i (omega (arith, c.requires, c.cells-test.true))
