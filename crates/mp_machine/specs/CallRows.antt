-- Rows that jump, call and return (ISO 7185, 6.6, 6.8.2.3, 6.8.2.4), with fault 5 for a case, fault 9 for a result, limit 1
-- on live activations and limit 2 on live cells.
use Rattle.std.specs.Prelude.{ℕ, suc, ◌+◌, ◌-◌, true, false, List, [], ◌∷◌, ◌++◌, length, Option, Some, None, nat_eq, nat_le}
use Rattle.std.specs.Prelude.{nat_lt, ℤ, pos, slice_get}
use Rattle.mp_base.specs.declared.limits.TheConstants.{ACTIVATION_LIMIT, CELL_LIMIT}
use Rattle.mp_code.specs.declared.instructions.CaseArm.{CaseArm}
use Rattle.mp_code.specs.BlockCode.{BlockCode, index_of_label}
use Rattle.mp_memory.specs.declared.cells.Cell.{Cell}
use Rattle.mp_memory.specs.declared.cells.Cell.TheVariants as cell
use Rattle.mp_memory.specs.Roots.{with_root}
use Rattle.mp_machine.specs.Blocks.{Path, same_path}
use Rattle.mp_machine.specs.Numbers.{same_number}
use Rattle.mp_machine.specs.Activations.{find_activation}
use Rattle.mp_machine.specs.States.{Frame, State, Codes, code_of, first_ordinal, activations_in, newest_path, live_cells}
use Rattle.mp_machine.specs.Outcomes.{Action, Row, ◌>>=◌, ◌>>◌, gives, skip, now, update, fault, limit, missing, ended, stuck}
use Rattle.mp_machine.specs.Outcomes.{needs, choose, unless}
use Rattle.mp_machine.specs.Operands.{put_cell, take_cell, take_number, take_all, change_newest, go_on_at}
use Rattle.mp_machine.specs.Memory.{cell_of, defined, undefined_cells, activation_at}

-- ---- jumps

-- i : none
abbrev pub jump_if_false : ℕ → Row
jump_if_false target = do
  i ← take_number
  choose (same_number i (pos 0)) (go_on_at target) skip

abbrev pub arm_of : List CaseArm → ℤ → Option ℕ
arm_of [] i = None
arm_of (arm ∷ more) i = elim (same_number arm.constant i) as (λ is. Option ℕ) [ true ↦ Some arm.target | false ↦ arm_of more i ]

abbrev pub go_to_arm : Option ℕ → Row
go_to_arm None = fault 5
go_to_arm (Some target) = go_on_at target

-- i : none
abbrev pub case : List CaseArm → Row
case arms = do
  i ← take_number
  go_to_arm (arm_of arms i)

-- ---- procedural values: the block's number is given where it is first named

-- among these blocks, the first of which has this number
abbrev pub number_from : (first : ℕ) → List Path → Path → Option ℕ
number_from n [] path = None
number_from n (p ∷ more) path = elim (same_path p path) as (λ is. Option ℕ) [
  | true ↦ Some n
  | false ↦
      number_from (n + 1) more path
]

abbrev pub number_of_block : List Path → Path → Option ℕ
number_of_block blocks path = number_from 0 blocks path

abbrev pub add_block : Path → Row
add_block path = update (λ s. record s { blocks = s.blocks ++ path ∷ [] })

abbrev pub put_routine : Path → (parent : ℕ) → State → Option ℕ → Row
put_routine path parent s (Some number) = put_cell (cell.Code number parent)
put_routine path parent s None = do
  add_block path
  put_cell (cell.Code (length s.blocks) parent)

-- none : the block with the activation of the depth
abbrev pub proc : (depth : ℕ) → Path → Row
proc d path = do
  parent ← activation_at d
  s ← now
  put_routine path parent s (number_of_block s.blocks path)

-- ---- calls

abbrev pub loaded : Option BlockCode → Path → Action BlockCode
loaded None path = missing path
loaded (Some code) path = gives code

-- with an activation more, which begins with these cells
abbrev pub entered : BlockCode → Path → (parent : ℕ) → List Cell → State → State
entered code path parent cells s = record s {
  frames = record {
    activation = record { number = s.next_root; block = path; parent = parent; from = s.at; cells = code.counted };
    next = 0;
    operands = [];
  } ∷ s.frames;
  roots = with_root s.roots s.next_root (Some (cells ++ undefined_cells (code.frame - length cells)));
  next_root = suc s.next_root;
  at = first_ordinal code;
}

-- the live cells, and so many more
abbrev pub cells_with : State → ℕ → ℕ
cells_with s n = live_cells s + n

-- one activation more may live, and so many cells more
abbrev pub must_have_room : (cells : ℕ) → Row
must_have_room n = do
  s ← now
  unless (nat_lt (length s.frames) ACTIVATION_LIMIT) (limit 1)
  unless (nat_le (cells_with s n) CELL_LIMIT) (limit 2)

abbrev pub enter : BlockCode → Path → (parent : ℕ) → List Cell → Row
enter code path parent cells = do
  unless (nat_le (length cells) code.frame) stuck
  must_have_room code.counted
  update (entered code path parent cells)

-- with this static parent
abbrev pub call_with : Codes → Path → (operands parent : ℕ) → Row
call_with codes path n parent = do
  code ← loaded (code_of codes path) path
  cells ← take_all n
  enter code path parent cells

-- operands : none
abbrev pub call : Codes → (depth : ℕ) → Path → (operands : ℕ) → Row
call codes d path n = do
  parent ← activation_at d
  call_with codes path n parent

abbrev pub as_routine : Cell → Action (ℕ × ℕ)
as_routine (cell.Code block act) = gives (block, act)
as_routine _ = stuck

abbrev pub call_block : Codes → List Cell → (parent : ℕ) → Path → Row
call_block codes cells parent path = do
  code ← loaded (code_of codes path) path
  enter code path parent cells

-- the block of the number, with the live activation of the number as static parent
abbrev pub call_routine : Codes → List Cell → ℕ × ℕ → Row
call_routine codes cells routine = do
  s ← now
  path ← needs (slice_get s.blocks routine.0)
  parent ← needs (find_activation (activations_in s.frames) routine.1)
  call_block codes cells parent.number path

-- Proc operands : none
abbrev pub call_by : Codes → (operands : ℕ) → Row
call_by codes n = do
  cells ← take_all n
  x ← take_cell
  routine ← as_routine x
  call_routine codes cells routine

-- ---- the end of activations

-- the newest ends, and its cells are dropped
abbrev pub without_newest : State → List Frame → State
without_newest s [] = s
without_newest s (f ∷ older) = record s {
  frames = older;
  roots = with_root s.roots f.activation.number None;
  at = f.activation.from;
}

abbrev pub leave_newest : Row
leave_newest = update (λ s. without_newest s s.frames)

-- a function's result is tested where its activation has ended
abbrev pub return_cell : Frame → Option ℕ → Row
return_cell f None = leave_newest
return_cell f (Some o) = do
  x ← cell_of (record { root = f.activation.number; offset = o })
  leave_newest
  y ← defined x
  put_cell y

abbrev pub return_in : List Frame → Option ℕ → Row
return_in [] o = stuck
return_in (f ∷ []) o = ended
return_in (f ∷ g ∷ older) o = return_cell f o

-- none : none, or the cell
abbrev pub «return» : Option ℕ → Row
«return» o = do
  s ← now
  return_in s.frames o

-- activations end until the one of the number is the newest
abbrev pub left_until : ℕ → State → List Frame → State
left_until number s [] = s
left_until number s (f ∷ older) = elim (nat_eq f.activation.number number) as (λ is. State) [
  | true ↦ s
  | false ↦ left_until number (without_newest s (f ∷ older)) older
]

abbrev pub label_in : Option BlockCode → ℕ → Option ℕ
label_in None l = None
label_in (Some code) l = index_of_label code.labels l

-- none : none
abbrev pub leave : Codes → (depth label : ℕ) → Row
leave codes d l = do
  number ← activation_at d
  update (λ s. left_until number s s.frames)
  s ← now
  k ← needs (label_in (code_of codes (newest_path s.frames)) l)
  change_newest (λ f. record f { next = k; operands = [] })
