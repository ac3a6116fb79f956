use Rattle.std.proofs.Common.{◌≡◌, take}
use Rattle.mp_machine.specs.ValueRows.{character_cells}
use Rattle.mp_machine.proofs.operands.Cells.of_characters.Given as goal

abbrev pub invariant-bytes : goal.invariant-bytes
invariant-bytes l = l.items.items ≡ character_cells (take l.byte-index l.bytes)
