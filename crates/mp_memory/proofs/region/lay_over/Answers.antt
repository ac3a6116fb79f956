use Rattle.std.proofs.Common.{arith, ap, ◌∙◌, slice_set, ◌+◌}
use Rattle.std.proofs.lemmas.List.{get_or_read}
use Rattle.mp_memory.proofs.LaidLemmas.{lay_more}
use Rattle.mp_memory.proofs.region.lay_over.Goals as goal

pub cells-preserved : goal.cells-preserved
cells-preserved c =
    ap (λ l. slice_set l (c.args.offset + c.cells.i) c.copy.result) c.cells.invariant
    ∙ lay_more c.args.cells.now.items c.args.offset c.args.new.now c.cells.i c.copy.result c.requires (omega (arith, c.cells-test.true))
    (c.copy.ensures ∙ get_or_read c.args.new.now c.cells.i _ (omega (arith, c.cells-test.true)) c.index-new-i.is c.copy.result)
