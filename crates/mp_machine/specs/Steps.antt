-- Steps of the machine: the next instruction's row, and what the machine answers.
use Rattle.std.specs.Prelude.{ℕ, zero, suc, ◌+◌, Bool, true, false, List, [], ◌∷◌, Option, Some, None, nat_le, slice_get}
use Rattle.mp_base.specs.declared.limits.TheConstants.{CELL_LIMIT}
use Rattle.mp_code.specs.declared.instructions.Instr.{Instr}
use Rattle.mp_code.specs.declared.instructions.Operation.{Operation}
use Rattle.mp_code.specs.declared.instructions.Operation.TheVariants as operation
use Rattle.mp_code.specs.BlockCode.{BlockCode}
use Rattle.mp_memory.specs.declared.cells.Cell.TheVariants as cell
use Rattle.mp_memory.specs.Roots.{Roots}
use Rattle.mp_files.specs.TextFiles.{input_file, output_file, shown}
use Rattle.mp_machine.specs.declared.answers.Gone.{Gone}
use Rattle.mp_machine.specs.declared.answers.Gone.TheVariants as gone
use Rattle.mp_machine.specs.States.{Frame, State, Codes, code_of, first_ordinal, place_of}
use Rattle.mp_machine.specs.Outcomes.{Outcome, Done, Fault, Limit, Missing, Ended, Lacking, Stuck}
use Rattle.mp_machine.specs.Operands.{with_newest}
use Rattle.mp_machine.specs.Memory.{undefined_cells}
use Rattle.mp_machine.specs.FileRows.{buffer_cell}
use Rattle.mp_machine.specs.Table.{row}

-- ---- the next instruction

abbrev pub instruction_in : Option BlockCode → ℕ → Option Instr
instruction_in None k = None
instruction_in (Some code) k = slice_get code.instructions k

abbrev pub next_in : Codes → List Frame → Option Instr
next_in codes [] = None
next_in codes (f ∷ older) = instruction_in (code_of codes f.activation.block) f.next

abbrev pub next_instruction : Codes → State → Option Instr
next_instruction codes s = next_in codes s.frames

-- ---- its row, in the state in which it is the one that was executed last

abbrev pub begun : (ordinal : ℕ) → State → State
begun ordinal s = record s { frames = with_newest (λ f. record f { next = f.next + 1 }) s.frames; at = ordinal }

abbrev pub execute : Codes → Option Instr → State → Outcome (Unit {0})
execute codes None s = Lacking
execute codes (Some i) s = row codes i.operation (begun i.ordinal s)

abbrev pub step : Codes → State → Outcome (Unit {0})
step codes s = execute codes (next_instruction codes s) s

-- it is the start of a statement
abbrev pub is_start : Operation → Bool
is_start operation.Stmt = true
is_start _ = false

abbrev pub starts : Option Instr → Bool
starts None = false
starts (Some i) = is_start i.operation

-- ---- the machine: a state, and its answer for ever where it has ended, or met a fault or limit

pub record Machine : Type 0 where
  pub state : State
  pub over : Option Gone

pub record Answered : Type 0 where
  pub answer : Gone
  pub machine : Machine

abbrev pub went : Bool → State → Gone
went true s = gone.AtStatement (place_of s)
went false s = gone.Went

abbrev pub goes_on : Gone → State → Option Answered
goes_on answer s = Some (record { answer = answer; machine = record { state = s; over = None } })

abbrev pub is_over : Gone → State → Option Answered
is_over answer s = Some (record { answer = answer; machine = record { state = s; over = Some answer } })

abbrev pub answered : Bool → State → Outcome (Unit {0}) → Option Answered
answered start s (Done x t) = goes_on (went start t) t
answered start s (Missing path) = goes_on (gone.Missing path) s
answered start s (Fault n t) = is_over (gone.Fault n (place_of t)) t
answered start s (Limit n t) = is_over (gone.Limit n (place_of t)) t
answered start s (Ended t) = is_over gone.Ended t
answered start s Lacking = None
answered start s Stuck = None

-- what the machine answers, and the machine after it; None where the conditions of the table are not met
abbrev pub answer : Codes → Machine → Option Answered
answer codes m = elim m.over as (λ over. Option Answered) [
  | Some g ↦ Some (record { answer = g; machine = m })
  | None ↦ answered (starts (next_instruction codes m.state)) m.state (step codes m.state)
]

-- ---- the start: the program's activation, and `input` and `output`

abbrev pub first_roots : (input : List ℕ) → (frame : ℕ) → Roots
first_roots input n zero = Some (cell.FileNo 0 ∷ buffer_cell (shown (input_file input)) ∷ cell.FileNo 1 ∷ cell.Undef ∷ [])
first_roots input n (suc zero) = Some (undefined_cells n)
first_roots input n (suc (suc r)) = None

abbrev pub first_frame : BlockCode → Frame
first_frame main = record {
  activation = record { number = 1; block = []; parent = 0; from = first_ordinal main; cells = main.counted };
  next = 0;
  operands = [];
}

abbrev pub first_state : BlockCode → (input : List ℕ) → State
first_state main input = record {
  frames = first_frame main ∷ [];
  roots = first_roots input main.frame;
  next_root = 2;
  objects = [];
  files = input_file input ∷ output_file ∷ [];
  written = 0;
  blocks = [];
  at = first_ordinal main;
}

-- limit 2 at the first instruction, where the cells of the program's block are too many
abbrev pub over_at_start : BlockCode → State → Option Gone
over_at_start main s = elim (nat_le main.counted CELL_LIMIT) as (λ fit. Option Gone) [
  | true ↦ None
  | false ↦ Some (gone.Limit 2 (place_of s))
]

abbrev pub start : BlockCode → (input : List ℕ) → Machine
start main input = record { state = first_state main input; over = over_at_start main (first_state main input) }

-- the code of the program's block alone
abbrev pub program_alone : BlockCode → Codes
program_alone main = record { path = []; code = main } ∷ []
