-- How a step is computed where the newest activation, its instruction and its operands are known: what each kind of row
-- comes to, for proofs about codes.
use Rattle.std.proofs.Common.{◌≡◌, ℕ, suc, List, [], ◌∷◌, Some, None, true, false, refl, ap, ◌∙◌}
use Rattle.std.specs.Prelude.{length, nat_le, nat_lt, ℤ, ◌+ℤ◌}
use Rattle.mp_base.specs.declared.limits.TheConstants.{ACTIVATION_LIMIT, CELL_LIMIT}
use Rattle.mp_code.specs.declared.instructions.Operation.TheVariants as operation
use Rattle.mp_code.specs.BlockCode.{BlockCode}
use Rattle.mp_memory.specs.declared.cells.Cell.{Cell}
use Rattle.mp_memory.specs.declared.cells.Cell.TheVariants as cell
use Rattle.mp_memory.specs.Roots.{Got, Dropped, cell_at, with_cells}
use Rattle.mp_machine.specs.Blocks.{Path}
use Rattle.mp_memory.specs.Integers.{is_integer}
use Rattle.mp_machine.specs.Activations.{holder}
use Rattle.mp_machine.specs.declared.operands.Operand.{Operand}
use Rattle.mp_machine.specs.declared.operands.Operand.TheVariants.{One}
use Rattle.mp_machine.specs.States.{Frame, State, Codes, code_of, activations_in}
use Rattle.mp_machine.specs.Outcomes.{Done, Fault}
use Rattle.mp_machine.specs.Memory.{with_root_cells}
use Rattle.mp_machine.specs.CallRows as call
use Rattle.mp_machine.specs.Table.{row}
use Rattle.mp_machine.specs.Steps.{next_in, instruction_in}
use Rattle.mp_machine.specs.Laws.{StepIsRow, CallsOfNoCode}

pub step_is_row : StepIsRow
step_is_row codes s f older code i frames loaded found =
    let next : next_in codes s.frames ≡ Some i = ap (next_in codes) frames ∙ ap (λ o. instruction_in o f.next) loaded ∙ found in
    rw (next, frames) refl

pub calls_of_no_code : CallsOfNoCode
calls_of_no_code codes s d path n is_function parent held none = rw (held, none) refl

-- ---- rows, in a state whose newest activation has these operands

abbrev pub over : State → Frame → List Operand → List Frame → State
over s f operands older = record s { frames = record f { operands = operands } ∷ older }

module _ (codes : Codes) (s : State) (f : Frame) (older : List Frame) (ops : List Operand) where
  pub addr_row : (d o number : ℕ) → holder (f.activation ∷ activations_in older) d ≡ Some number →
      row codes (operation.Addr d o) (over s f ops older) ≡ Done tt (over s f (One (cell.Ref number o) ∷ ops) older)
  addr_row d o number held = rw held refl

  pub load_row : (r o : ℕ) (n : ℤ) → cell_at (s.roots r) o ≡ Got (cell.Int n) →
      row codes operation.Load (over s f (One (cell.Ref r o) ∷ ops) older) ≡ Done tt (over s f (One (cell.Int n) ∷ ops) older)
  load_row r o n found = rw found refl

  pub load_of_disposed : (r o : ℕ) → cell_at (s.roots r) o ≡ Dropped →
      row codes operation.Load (over s f (One (cell.Ref r o) ∷ ops) older) ≡ Fault 8 (over s f ops older)
  load_of_disposed r o found = rw found refl

  pub store_row : (r o : ℕ) (x : Cell) (cells : List Cell) → with_cells (s.roots r) o (x ∷ []) ≡ Got cells →
      row codes operation.Store (over s f (One x ∷ One (cell.Ref r o) ∷ ops) older) ≡ Done tt
      (with_root_cells r cells (over s f ops older))
  store_row r o x cells found = rw found refl

  pub add_row : (i j : ℤ) → is_integer (i +ℤ j) ≡ true →
      row codes operation.Add (over s f (One (cell.Int j) ∷ One (cell.Int i) ∷ ops) older) ≡ Done tt
      (over s f (One (cell.Int (i +ℤ j)) ∷ ops) older)
  add_row i j fits = rw fits refl

  pub overflow_row : (i j : ℤ) → is_integer (i +ℤ j) ≡ false →
      row codes operation.Add (over s f (One (cell.Int j) ∷ One (cell.Int i) ∷ ops) older) ≡ Fault 1 (over s f ops older)
  overflow_row i j large = rw large refl

  pub call_row : (d : ℕ) (path : Path) (parent : ℕ) (code : BlockCode) (x : Cell) → holder (f.activation ∷ activations_in
      older) d ≡ Some parent → code_of codes path ≡ Some code →
      nat_le 1 code.frame ≡ true → nat_lt (suc (length older)) ACTIVATION_LIMIT ≡ true →
      nat_le (call.cells_with (over s f ops older) code.counted) CELL_LIMIT ≡ true →
      row codes (operation.Call d path 1 false) (over s f (One x ∷ ops) older) ≡ Done tt (call.entered code path parent (x ∷
      []) (over s f ops older))
  call_row d path parent code x held loaded fits few small = rw (held, loaded, fits, few, small) refl

  pub return_row : (g : Frame) → row codes (operation.Return None) (over s f ops (g ∷ older)) ≡ Done tt
      (call.without_newest (over s f ops (g ∷ older)) (record f { operands = ops } ∷ g ∷ older))
  return_row g = refl
