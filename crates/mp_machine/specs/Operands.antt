-- Taking and putting operands of the newest activation, and its next instruction.
use Rattle.std.specs.Prelude.{ℕ, zero, suc, Bool, List, [], ◌∷◌, ◌++◌, ℤ}
use Rattle.mp_memory.specs.declared.cells.Cell.{Cell}
use Rattle.mp_memory.specs.declared.cells.Cell.TheVariants as cell
use Rattle.mp_machine.specs.declared.addresses.Address.{Address}
use Rattle.mp_machine.specs.Numbers.{truth}
use Rattle.mp_machine.specs.declared.operands.Operand.{Operand}
use Rattle.mp_machine.specs.declared.operands.Operand.TheVariants.{One, Block}
use Rattle.mp_machine.specs.States.{Frame, State}
use Rattle.mp_machine.specs.Outcomes.{Outcome, Done, Lacking, Stuck, Action, Row, ◌>>=◌, gives, stuck}

-- ---- the newest activation

abbrev pub with_newest : (Frame → Frame) → List Frame → List Frame
with_newest change [] = []
with_newest change (f ∷ older) = change f ∷ older

abbrev pub change_newest : (Frame → Frame) → Row
change_newest change s = Done tt (record s { frames = with_newest change s.frames })

-- it goes on at this index
abbrev pub go_on_at : ℕ → Row
go_on_at k = change_newest (λ f. record f { next = k })

-- ---- putting

abbrev pub put : Operand → Row
put x = change_newest (λ f. record f { operands = x ∷ f.operands })

abbrev pub put_cell : Cell → Row
put_cell x = put (One x)

abbrev pub put_number : ℤ → Row
put_number n = put_cell (cell.Int n)

-- 0 or 1
abbrev pub put_truth : Bool → Row
put_truth b = put_number (truth b)

abbrev pub put_members : List ℕ → Row
put_members set = put_cell (cell.Members set)

abbrev pub put_reference : Address → Row
put_reference a = put_cell (cell.Ref a.root a.offset)

-- ---- taking

abbrev pub without_operand : State → Frame → List Frame → List Operand → Outcome Operand
without_operand s f older [] = Lacking
without_operand s f older (x ∷ more) = Done x (record s { frames = record f { operands = more } ∷ older })

abbrev pub taken : State → List Frame → Outcome Operand
taken s [] = Stuck
taken s (f ∷ older) = without_operand s f older f.operands

-- the last operand
abbrev pub take : Action Operand
take s = taken s s.frames

abbrev pub as_cell : Operand → Action Cell
as_cell (One x) = gives x
as_cell (Block xs) = stuck

abbrev pub as_block : Operand → Action (List Cell)
as_block (One x) = stuck
as_block (Block xs) = gives xs

abbrev pub as_number : Cell → Action ℤ
as_number (cell.Int n) = gives n
as_number _ = stuck

abbrev pub as_members : Cell → Action (List ℕ)
as_members (cell.Members set) = gives set
as_members _ = stuck

abbrev pub as_pointer : Cell → Action ℕ
as_pointer (cell.Ptr object) = gives object
as_pointer _ = stuck

abbrev pub as_address : Cell → Action Address
as_address (cell.Ref root offset) = gives (record { root = root; offset = offset })
as_address _ = stuck

abbrev pub take_cell : Action Cell
take_cell = do
  x ← take
  as_cell x

abbrev pub take_block : Action (List Cell)
take_block = do
  x ← take
  as_block x

abbrev pub take_number : Action ℤ
take_number = do
  x ← take_cell
  as_number x

abbrev pub take_members : Action (List ℕ)
take_members = do
  x ← take_cell
  as_members x

abbrev pub take_pointer : Action ℕ
take_pointer = do
  x ← take_cell
  as_pointer x

abbrev pub take_address : Action Address
take_address = do
  x ← take_cell
  as_address x

-- the cells of so many operands, those of the first one first; a block fills as many cells as it has
abbrev pub cells_in : Operand → List Cell
cells_in (One x) = x ∷ []
cells_in (Block xs) = xs

abbrev pub take_all : ℕ → Action (List Cell)
take_all zero = gives []
take_all (suc n) = do
  last ← take
  before ← take_all n
  gives (before ++ cells_in last)
