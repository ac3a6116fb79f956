use Rattle.std.proofs.Common.{◌∙◌, arith}
use Rattle.std.proofs.lemmas.Grind.{common_steps}
use Rattle.mp_memory.specs.Roots.{roots_of}
use Rattle.mp_machine.specs.States.{object_cells}
use Rattle.mp_machine.proofs.EnterLemmas.{object_next}
use Rattle.mp_machine.proofs.calls.cells_of_objects.Goals as goal

pub objects-preserved : goal.objects-preserved
objects-preserved c = record {
  total = object_next (roots_of c.args.store.now) c.args.objects.now.items c.objects.cells c.from-cells.result
      (object_cells (roots_of c.args.store.now) c.args.objects.now.items) c.objects.i c.index.result.now
      (grind (arith, common_steps)) c.index.ensures c.objects.invariant.total (c.from-cells.ensures ∙
      c.cells_while_live.ensures);
  bound = let b = c.objects.invariant.bound in let e = c.from-cells.ensures in let t = c.cells_while_live.type_inv in
      omega (arith, b, e, t);
}
