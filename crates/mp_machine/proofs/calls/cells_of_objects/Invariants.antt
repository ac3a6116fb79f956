use Rattle.std.proofs.Common.{◌≡◌, ◌+◌, ◌*◌, ◌≤◌, ◌^◌, drop}
use Rattle.std.specs.List.{fold}
use Rattle.mp_memory.specs.Roots.{roots_of}
use Rattle.mp_machine.specs.States.{cells_while, object_cells}
use Rattle.mp_machine.proofs.calls.cells_of_objects.Given as goal

-- the cells so far, and those of the objects that are left
abbrev pub invariant-objects : goal.invariant-objects
invariant-objects l = record {
  total : fold (λ n o. n + cells_while (roots_of l.store o.root) o.cells) l.cells (drop l.i l.objects.items)
      ≡ object_cells (roots_of l.store) l.objects.items;
  bound : l.cells ≤ l.i * 2 ^ 32;
}
