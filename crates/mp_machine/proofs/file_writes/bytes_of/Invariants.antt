use Rattle.std.proofs.Common.{◌≡◌, drop, true}
use Rattle.mp_machine.specs.ValueRows.{characters_of}
use Rattle.mp_machine.proofs.BytesLemmas.{after, are_bytes}
use Rattle.mp_machine.proofs.file_writes.bytes_of.Given as goal

-- what was read stands before the characters of the cells that are left
abbrev pub invariant-cells : goal.invariant-cells
invariant-cells l = record {
  all : after l.bytes.items (characters_of (drop l.i l.cells)) ≡ characters_of l.cells;
  small : are_bytes l.bytes.items ≡ true;
}
