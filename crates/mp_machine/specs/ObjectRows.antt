-- Rows that make and dispose of objects (ISO 7185, 6.6.5.3): fault 7 for nil, fault 8 for a disposed one, limit 2 on live
-- cells.
use Rattle.std.specs.Prelude.{ℕ, suc, [], ◌∷◌, ◌++◌, length, Some, None, nat_le}
use Rattle.mp_base.specs.declared.limits.TheConstants.{CELL_LIMIT}
use Rattle.mp_memory.specs.declared.cells.Cell.TheVariants as cell
use Rattle.mp_memory.specs.Roots.{with_root}
use Rattle.mp_machine.specs.States.{State}
use Rattle.mp_machine.specs.Outcomes.{Row, ◌>>=◌, ◌>>◌, now, update, limit, unless}
use Rattle.mp_machine.specs.declared.addresses.Address.{Address}
use Rattle.mp_machine.specs.Operands.{take_address, take_pointer}
use Rattle.mp_machine.specs.Memory.{cell_of, set_cell, undefined_cells, object_at}
use Rattle.mp_machine.specs.CallRows.{cells_with}

abbrev pub with_object : ℕ → State → State
with_object n s = record s {
  roots = with_root s.roots s.next_root (Some (undefined_cells n));
  next_root = suc s.next_root;
  objects = s.objects ++ record { root = s.next_root; cells = n } ∷ [];
}

-- a new object, whose pointer is stored there
abbrev pub new_at : Address → ℕ → Row
new_at a n = do
  s ← now
  unless (nat_le (cells_with s n) CELL_LIMIT) (limit 2)
  update (with_object n)
  set_cell a (cell.Ptr (suc (length s.objects)))

-- Ref : none
abbrev pub new : ℕ → Row
new n = do
  a ← take_address
  _ ← cell_of a
  new_at a n

-- Ptr : none
abbrev pub dispose : Row
dispose = do
  k ← take_pointer
  o ← object_at k
  update (λ s. record s { roots = with_root s.roots o.root None })
