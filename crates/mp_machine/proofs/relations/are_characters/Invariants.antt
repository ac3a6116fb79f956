use Rattle.std.proofs.Common.{◌≡◌, drop}
use Rattle.std.specs.Prelude.{is_some}
use Rattle.mp_machine.specs.ValueRows.{characters_of}
use Rattle.mp_machine.proofs.relations.are_characters.Given as goal

-- the cells that are left tell for all
abbrev pub invariant-cells : goal.invariant-cells
invariant-cells l = is_some (characters_of (drop l.i l.cells)) ≡ is_some (characters_of l.cells)
