-- Rows that form references, and read and set cells under them (ISO 7185, 6.5, 6.8.2.2), with the faults: 4 for an index,
-- 7 and 8 for pointers and disposed variables, 9 for an undefined value, 10 for a variant that is not active.
use Rattle.std.specs.Prelude.{ℕ, ◌*◌, Bool, false, ◌&&◌, List, ℤ, ◌-ℤ◌, nat_lt}
use Rattle.std.specs.List.{list_any}
use Rattle.mp_code.specs.declared.instructions.Group.{Group}
use Rattle.mp_code.specs.declared.instructions.RequiredFile.{RequiredFile}
use Rattle.mp_code.specs.declared.instructions.RequiredFile.TheVariants as required
use Rattle.mp_memory.specs.declared.cells.Cell.{Cell}
use Rattle.mp_memory.specs.declared.cells.Cell.TheVariants as cell
use Rattle.mp_machine.specs.Numbers.{lies_in, one_of, natural}
use Rattle.mp_machine.specs.declared.operands.Operand.TheVariants.{Block}
use Rattle.mp_machine.specs.Outcomes.{Row, ◌>>=◌, ◌>>◌, fault, stuck, choose, unless}
use Rattle.mp_machine.specs.declared.addresses.Address.{Address}
use Rattle.mp_machine.specs.Operands.{put, put_cell, put_reference, take_cell, take_number, take_pointer, take_address}
use Rattle.mp_machine.specs.Operands.{take_block}
use Rattle.mp_machine.specs.Memory.{cell_of, cells_of, defined, set_cell, set_cells, undefined_cells, beyond, offset_limit}
use Rattle.mp_machine.specs.Memory.{reach, activation_at}
use Rattle.mp_machine.specs.Memory.{object_at}

-- ---- references

abbrev pub put_far : Address → Row
put_far a = choose (nat_lt a.offset offset_limit) (put_reference a) stuck

-- none : Ref
abbrev pub addr : (depth offset : ℕ) → Row
addr d o = do
  number ← activation_at d
  put_reference (record { root = number; offset = o })

abbrev pub file_offset : RequiredFile → ℕ
file_offset required.Input = 0
file_offset required.Output = 2

-- none : Ref
abbrev pub file_at : RequiredFile → Row
file_at f = put_reference (record { root = 0; offset = file_offset f })

-- Ref : Ref
abbrev pub offset : ℕ → Row
offset n = do
  a ← take_address
  put_far (beyond a n)

-- Ref i : Ref
abbrev pub index : (low high : ℤ) → (size : ℕ) → Row
index low high size = do
  i ← take_number
  a ← take_address
  unless (lies_in low high i) (fault 4)
  put_far (beyond a (natural (i -ℤ low) * size))

-- Ptr : Ref
abbrev pub follow : Row
follow = do
  k ← take_pointer
  o ← object_at k
  put_reference (record { root = o.root; offset = 0 })

-- ---- reading and setting

-- Ref : its cell
abbrev pub load : Row
load = do
  a ← take_address
  x ← cell_of a
  y ← defined x
  put_cell y

-- Ref x : none
abbrev pub store : Row
store = do
  x ← take_cell
  a ← take_address
  set_cell a x

-- Ref : none
abbrev pub clear : ℕ → Row
clear n = do
  a ← take_address
  set_cells a (undefined_cells n)

-- Ref : block
abbrev pub load_many : ℕ → Row
load_many n = do
  a ← take_address
  xs ← cells_of a n
  put (Block xs)

-- Ref block : none
abbrev pub store_many : ℕ → Row
store_many n = do
  xs ← take_block
  a ← take_address
  set_cells a xs

-- ---- variants (6.4.3.3)

-- the tag has one of the values
abbrev pub is_tag_of : List ℤ → Cell → Bool
is_tag_of constants (cell.Int n) = one_of n constants
is_tag_of constants _ = false

-- the tag becomes x, and so many cells behind it undefined
abbrev pub set_tag : Address → Cell → (cells : ℕ) → Row
set_tag a x n = do
  set_cell a x
  b ← reach a 1
  set_cells b (undefined_cells n)

-- Ref : Ref
abbrev pub active : (offset : ℕ) → List ℤ → Row
active o constants = do
  a ← take_address
  b ← reach a o
  tag ← cell_of b
  unless (is_tag_of constants tag) (fault 10)
  put_reference a

-- Ref : Ref
abbrev pub select : (offset : ℕ) → ℤ → List ℤ → (cells : ℕ) → Row
select o constant constants n = do
  a ← take_address
  b ← reach a o
  tag ← cell_of b
  unless (is_tag_of constants tag) (set_tag b (cell.Int constant) n)
  put_reference a

-- the old and the new value select the same variant
abbrev pub same_variant : List Group → Cell → Cell → Bool
same_variant groups old new = list_any (λ g. is_tag_of g.constants old && is_tag_of g.constants new) groups

-- Ref i : none
abbrev pub tag : List Group → (cells : ℕ) → Row
tag groups n = do
  x ← take_cell
  a ← take_address
  old ← cell_of a
  choose (same_variant groups old x) (set_cell a x) (set_tag a x n)
