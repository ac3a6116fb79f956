-- Each row by itself, in a state made for it: what it leaves, or which fault or limit it comes to.
use Rattle.std.specs.Prelude.{◌≡◌, ℕ, zero, suc, List, [], ◌∷◌, ◌++◌, map, replicate, Option, Some, None, codes, pos, negsuc}
use Rattle.std.specs.Prelude.{false}
use Rattle.mp_code.specs.declared.instructions.Operation.{Operation}
use Rattle.mp_code.specs.declared.instructions.Operation.TheVariants as operation
use Rattle.mp_code.specs.declared.instructions.Relation.TheVariants as relation
use Rattle.mp_code.specs.declared.instructions.RangeFault.TheVariants as outside
use Rattle.mp_code.specs.declared.instructions.RequiredFile.TheVariants as required
use Rattle.mp_memory.specs.declared.cells.Cell.{Cell}
use Rattle.mp_memory.specs.declared.cells.Cell.TheVariants as cell
use Rattle.mp_memory.specs.Roots.{Roots}
use Rattle.mp_machine.specs.Blocks.{Path}
use Rattle.mp_base.specs.declared.limits.TheConstants.{MAXINT}
use Rattle.mp_files.specs.TextFiles.{input_file, output_file}
use Rattle.mp_machine.specs.declared.operands.Operand.{Operand}
use Rattle.mp_machine.specs.declared.operands.Operand.TheVariants.{One, Block}
use Rattle.mp_machine.specs.States.{Frame, State}
use Rattle.mp_machine.specs.Outcomes.{Outcome, Done, Fault, Limit, Missing, Ended, Lacking, Stuck}
use Rattle.mp_machine.specs.Table.{row}

-- ---- the state: root 1 is the activation's, object 1 has root 2 with three cells, object 2 had root 3 and is disposed

abbrev pub number : ℕ → Operand
number n = One (cell.Int (pos n))

abbrev pub minus : ℕ → Operand
minus n = One (cell.Int (negsuc n))

abbrev pub set : List ℕ → Operand
set ms = One (cell.Members ms)

abbrev pub ref : ℕ → ℕ → Operand
ref r o = One (cell.Ref r o)

abbrev pub pointer : ℕ → Operand
pointer k = One (cell.Ptr k)

abbrev pub frame : List Operand → Frame
frame operands = record {
  activation = record { number = 1; block = []; parent = 0; from = 0; cells = 4 };
  next = 5;
  operands = operands;
}

abbrev pub roots : List Cell → Roots
roots cells zero = None
roots cells (suc zero) = Some cells
roots cells (suc (suc zero)) = Some (cell.Undef ∷ cell.Int (pos 7) ∷ cell.Undef ∷ [])
roots cells (suc (suc (suc r))) = None

abbrev pub scene : List Operand → List Cell → State
scene operands cells = record {
  frames = frame operands ∷ [];
  roots = roots cells;
  next_root = 4;
  objects = record { root = 2; cells = 3 } ∷ record { root = 3; cells = 1 } ∷ [];
  files = input_file [] ∷ output_file ∷ [];
  written = 0;
  blocks = [];
  at = 0;
}

-- ---- what is seen after it: the operands, the cells of the activation, the next instruction

pub data Seen : Type 0 where
  Leaves : List Operand → List Cell → (next : ℕ) → Seen
  Faults : ℕ → Seen
  Limits : ℕ → Seen
  OfNoCode : Path → Seen
  Returns : Seen
  Lacks : Seen
  Sticks : Seen

abbrev pub cells_under : Option (List Cell) → List Cell
cells_under None = []
cells_under (Some cells) = cells

abbrev pub newest_of : State → List Frame → Seen
newest_of s [] = Sticks
newest_of s (f ∷ older) = Leaves f.operands (cells_under (s.roots f.activation.number)) f.next

abbrev pub seen : Outcome (Unit {0}) → Seen
seen (Done x s) = newest_of s s.frames
seen (Fault n s) = Faults n
seen (Limit n s) = Limits n
seen (Missing path) = OfNoCode path
seen (Ended s) = Returns
seen Lacking = Lacks
seen Stuck = Sticks

-- with these operands, the last one first, and these cells
pub record Case : Type 0 where
  pub does : Operation
  pub operands : List Operand
  pub cells : List Cell

abbrev pub tried : Case → Seen
tried c = seen (row [] c.does (scene c.operands c.cells))

abbrev pub of : Operation → List Operand → List Cell → Case
of o operands cells = record { does = o; operands = operands; cells = cells }

-- of a row that touches no cell, over an operand that stands below
abbrev pub on : Operation → List Operand → Case
on o operands = of o (operands ++ number 99 ∷ []) []

abbrev pub puts : List Operand → Seen
puts operands = Leaves (operands ++ number 99 ∷ []) [] 5

-- ---- constants and numbers

abbrev pub NumberRows : Type 0
NumberRows =
    map tried (on operation.Stmt [] ∷ on (operation.Int (negsuc 4)) [] ∷ on operation.Nil [] ∷ on operation.Empty [] ∷
    on (operation.Chars (codes "ab")) [] ∷ on (operation.Proc 0 []) [] ∷ on (operation.Addr 0 3) [] ∷
    on (operation.FileAt required.Input) [] ∷ on (operation.FileAt required.Output) [] ∷ on operation.Dup (number 4 ∷ []) ∷
    on operation.Dup (Block [] ∷ []) ∷
    on operation.Add (number 3 ∷ number 4 ∷ []) ∷ on operation.Sub (number 3 ∷ number 4 ∷ []) ∷
    on operation.Mul (number 3 ∷ minus 3 ∷ []) ∷
    on operation.Div (number 2 ∷ minus 6 ∷ []) ∷ on operation.Mod (number 2 ∷ minus 6 ∷ []) ∷ on operation.Neg (number 7 ∷ []) ∷
    on operation.Odd (minus 2 ∷ []) ∷ on operation.Not (number 0 ∷ []) ∷ on operation.And (number 1 ∷ number 0 ∷ []) ∷
    on operation.Or (number 1 ∷ number 0 ∷ []) ∷
    on (operation.Range (pos 1) (pos 4) outside.OutsideType) (number 4 ∷ []) ∷ []) ≡
    puts [] ∷ puts (minus 4 ∷ []) ∷ puts (pointer 0 ∷ []) ∷ puts (set [] ∷ []) ∷
    puts (Block (cell.Int (pos 97) ∷ cell.Int (pos 98) ∷ []) ∷ []) ∷ puts (One (cell.Code 0 1) ∷ []) ∷ puts (ref 1 3 ∷ []) ∷
    puts (ref 0 0 ∷ []) ∷ puts (ref 0 2 ∷ []) ∷ puts (number 4 ∷ number 4 ∷ []) ∷ Sticks ∷
    puts (number 7 ∷ []) ∷ puts (number 1 ∷ []) ∷ puts (minus 11 ∷ []) ∷
    puts (minus 2 ∷ []) ∷ puts (number 1 ∷ []) ∷ puts (minus 6 ∷ []) ∷
    puts (number 1 ∷ []) ∷ puts (number 1 ∷ []) ∷ puts (number 0 ∷ []) ∷ puts (number 1 ∷ []) ∷
    puts (number 4 ∷ []) ∷ []

-- ---- sets and relations

abbrev pub SetRows : Type 0
SetRows =
    map tried (on (operation.Within (pos 1) (pos 4)) (set (1 ∷ 4 ∷ []) ∷ []) ∷ on operation.Has (set (3 ∷ []) ∷ number 3 ∷
    []) ∷ on operation.Has (set (3 ∷ []) ∷ number 300 ∷ []) ∷
    on operation.One (number 2 ∷ set (1 ∷ 3 ∷ []) ∷ []) ∷ on operation.Span (number 4 ∷ number 2 ∷ set (9 ∷ []) ∷ []) ∷
    on operation.Span (number 4 ∷ number 500 ∷ set (9 ∷ []) ∷ []) ∷
    on operation.Union (set (2 ∷ []) ∷ set (1 ∷ 3 ∷ []) ∷ []) ∷ on operation.Meet (set (2 ∷ 3 ∷ []) ∷ set (1 ∷ 3 ∷ []) ∷ []) ∷
    on operation.Less (set (2 ∷ 3 ∷ []) ∷ set (1 ∷ 3 ∷ []) ∷ []) ∷
    on (operation.Cmp relation.Less) (number 2 ∷ number 1 ∷ []) ∷ on (operation.Cmp relation.LessOrEqual) (set (1 ∷ 2 ∷ []) ∷
    set (2 ∷ []) ∷ []) ∷
    on (operation.Cmp relation.Equal) (pointer 2 ∷ pointer 1 ∷ []) ∷
    on (operation.Cmp relation.GreaterOrEqual) (Block (cell.Int (pos 1) ∷ cell.Int (pos 2) ∷ []) ∷
    Block (cell.Int (pos 1) ∷ cell.Int (pos 3) ∷ []) ∷ []) ∷ []) ≡
    puts (set (1 ∷ 4 ∷ []) ∷ []) ∷ puts (number 1 ∷ []) ∷ puts (number 0 ∷ []) ∷
    puts (set (1 ∷ 2 ∷ 3 ∷ []) ∷ []) ∷ puts (set (2 ∷ 3 ∷ 4 ∷ 9 ∷ []) ∷ []) ∷ puts (set (9 ∷ []) ∷ []) ∷
    puts (set (1 ∷ 2 ∷ 3 ∷ []) ∷ []) ∷ puts (set (3 ∷ []) ∷ []) ∷ puts (set (1 ∷ []) ∷ []) ∷
    puts (number 1 ∷ []) ∷ puts (number 1 ∷ []) ∷ puts (number 0 ∷ []) ∷ puts (number 1 ∷ []) ∷ []

-- ---- their faults

abbrev pub ValueFaults : Type 0
ValueFaults =
    map tried (on operation.Add (One (cell.Int (pos MAXINT)) ∷ number 1 ∷ []) ∷ on operation.Sub (number 2 ∷ minus 2147483645 ∷
    []) ∷ on operation.Mul (number 65536 ∷ number 65536 ∷ []) ∷
    on operation.Div (number 0 ∷ number 1 ∷ []) ∷ on operation.Mod (number 0 ∷ number 1 ∷ []) ∷
    on operation.Mod (minus 0 ∷ number 1 ∷ []) ∷
    on (operation.Range (pos 1) (pos 4) outside.OutsideType) (number 5 ∷ []) ∷
    on (operation.Range (pos 1) (pos 4) outside.OutsideBounds) (number 0 ∷ []) ∷
    on (operation.Range (pos 1) (pos 4) outside.NoSuchValue) (number 5 ∷ []) ∷
    on (operation.Within (pos 1) (pos 4)) (set (1 ∷ 5 ∷ []) ∷ []) ∷ on operation.One (number 256 ∷ set [] ∷ []) ∷
    on operation.Span (number 256 ∷ number 255 ∷ set [] ∷ []) ∷
    on (operation.Cmp relation.Equal) (Block (cell.Undef ∷ []) ∷ Block (cell.Int (pos 1) ∷ []) ∷ []) ∷
    on (operation.Case []) (number 1 ∷ []) ∷ on operation.Add (number 1 ∷ pointer 0 ∷ []) ∷
    of operation.Add (number 1 ∷ []) [] ∷ []) ≡
    Faults 1 ∷ Faults 1 ∷ Faults 1 ∷ Faults 2 ∷ Faults 2 ∷ Faults 2 ∷ Faults 3 ∷ Faults 4 ∷ Faults 6 ∷ Faults 3 ∷ Faults 15 ∷
    Faults 15 ∷ Faults 9 ∷
    Faults 5 ∷ Sticks ∷ Lacks ∷ []

-- ---- cells

abbrev some_cells : List Cell
some_cells = cell.Int (pos 3) ∷ cell.Undef ∷ cell.Int (pos 5) ∷ cell.Int (pos 6) ∷ []

abbrev kept : List Operand → Seen
kept operands = Leaves operands some_cells 5

abbrev set_to : List Cell → Seen
set_to cells = Leaves [] cells 5

abbrev with_cells : Operation → List Operand → Case
with_cells o operands = of o operands some_cells

abbrev two_groups : Operation
two_groups = operation.Tag (record { constants = pos 3 ∷ pos 4 ∷ [] } ∷ record { constants = pos 5 ∷ [] } ∷ []) 2

abbrev pub VariableRows : Type 0
VariableRows =
    map tried (with_cells operation.Load (ref 1 2 ∷ []) ∷ with_cells operation.Store (pointer 0 ∷ ref 1 1 ∷ []) ∷
    with_cells (operation.Clear 2) (ref 1 2 ∷ []) ∷
    with_cells (operation.LoadMany 2) (ref 1 1 ∷ []) ∷
    with_cells (operation.StoreMany 2) (Block (cell.Undef ∷ cell.Int (pos 9) ∷ []) ∷ ref 1 0 ∷ []) ∷
    with_cells (operation.Offset 3) (ref 1 0 ∷ []) ∷ with_cells (operation.Index (negsuc 1) (pos 4) 3) (number 0 ∷ ref 1 1 ∷
    []) ∷ with_cells operation.Follow (pointer 1 ∷ []) ∷
    with_cells (operation.Active 1 (pos 5 ∷ [])) (ref 1 1 ∷ []) ∷ with_cells (operation.Choose 1 (pos 8) (pos 5 ∷ []) 1)
    (ref 1 1 ∷ []) ∷
    with_cells (operation.Choose 0 (pos 8) (pos 5 ∷ []) 2) (ref 1 1 ∷ []) ∷
    with_cells two_groups (number 4 ∷ ref 1 0 ∷ []) ∷ with_cells two_groups (number 5 ∷ ref 1 0 ∷ []) ∷
    with_cells two_groups (number 5 ∷ ref 1 1 ∷ []) ∷ []) ≡
    kept (number 5 ∷ []) ∷ set_to (cell.Int (pos 3) ∷ cell.Ptr 0 ∷ cell.Int (pos 5) ∷ cell.Int (pos 6) ∷ []) ∷
    set_to (cell.Int (pos 3) ∷ cell.Undef ∷ cell.Undef ∷ cell.Undef ∷ []) ∷
    kept (Block (cell.Undef ∷ cell.Int (pos 5) ∷ []) ∷ []) ∷ set_to (cell.Undef ∷ cell.Int (pos 9) ∷ cell.Int (pos 5) ∷
    cell.Int (pos 6) ∷ []) ∷
    kept (ref 1 3 ∷ []) ∷ kept (ref 1 7 ∷ []) ∷ kept (ref 2 0 ∷ []) ∷
    kept (ref 1 1 ∷ []) ∷ kept (ref 1 1 ∷ []) ∷
    Leaves (ref 1 1 ∷ []) (cell.Int (pos 3) ∷ cell.Int (pos 8) ∷ cell.Undef ∷ cell.Undef ∷ []) 5 ∷
    set_to (cell.Int (pos 4) ∷ cell.Undef ∷ cell.Int (pos 5) ∷ cell.Int (pos 6) ∷ []) ∷ set_to (cell.Int (pos 5) ∷ cell.Undef ∷
    cell.Undef ∷ cell.Int (pos 6) ∷ []) ∷
    set_to (cell.Int (pos 3) ∷ cell.Int (pos 5) ∷ cell.Undef ∷ cell.Undef ∷ []) ∷ []

-- outside of the cells of a root nothing is promised
abbrev pub VariableFaults : Type 0
VariableFaults =
    map tried (with_cells operation.Load (ref 1 1 ∷ []) ∷ with_cells (operation.Index (pos 1) (pos 4) 3) (number 5 ∷ ref 1 1 ∷
    []) ∷ with_cells (operation.Index (pos 1) (pos 4) 3) (number 0 ∷ ref 3 0 ∷ []) ∷
    with_cells operation.Follow (pointer 0 ∷ []) ∷ with_cells operation.Dispose (pointer 0 ∷ []) ∷
    with_cells (operation.Active 1 (pos 5 ∷ [])) (ref 1 0 ∷ []) ∷ with_cells (operation.Active 1 (pos 5 ∷ [])) (ref 1 2 ∷ []) ∷
    with_cells operation.Load (ref 1 4 ∷ []) ∷ with_cells operation.Follow (pointer 3 ∷ []) ∷
    with_cells (operation.StoreMany 2) (Block (cell.Undef ∷ cell.Undef ∷ []) ∷ ref 1 3 ∷ []) ∷ []) ≡
    Faults 9 ∷ Faults 4 ∷ Faults 4 ∷ Faults 7 ∷ Faults 7 ∷ Faults 10 ∷ Faults 10 ∷ Sticks ∷ Sticks ∷ Sticks ∷ []

-- each row that uses a disposed object's variable is fault 8; forming, copying and comparing are none
abbrev pub DisposedFaults : Type 0
DisposedFaults =
    map tried (with_cells operation.Load (ref 3 0 ∷ []) ∷ with_cells operation.Store (number 1 ∷ ref 3 0 ∷ []) ∷
    with_cells (operation.Clear 1) (ref 3 0 ∷ []) ∷
    with_cells (operation.LoadMany 1) (ref 3 0 ∷ []) ∷ with_cells (operation.StoreMany 1) (Block (cell.Undef ∷ []) ∷ ref 3 0 ∷
    []) ∷ with_cells operation.Follow (pointer 2 ∷ []) ∷
    with_cells (operation.Active 0 []) (ref 3 0 ∷ []) ∷ with_cells (operation.Choose 0 (pos 1) [] 1) (ref 3 0 ∷ []) ∷
    with_cells two_groups (number 3 ∷ ref 3 0 ∷ []) ∷
    with_cells (operation.New 2000000) (ref 3 0 ∷ []) ∷ with_cells operation.Dispose (pointer 2 ∷ []) ∷
    with_cells (operation.Offset 1) (ref 3 0 ∷ []) ∷ with_cells operation.Dup (pointer 2 ∷ []) ∷
    with_cells (operation.Cmp relation.Equal) (pointer 2 ∷ pointer 2 ∷ []) ∷ []) ≡
    replicate 11 (Faults 8) ++ kept (ref 3 1 ∷ []) ∷ kept (pointer 2 ∷ pointer 2 ∷ []) ∷ kept (number 1 ∷ []) ∷ []

-- ---- jumps

abbrev pub JumpRows : Type 0
JumpRows =
    map tried (of (operation.Jump 8) [] [] ∷ of (operation.False 8) (number 0 ∷ []) [] ∷ of (operation.False 8) (number 1 ∷
    []) [] ∷
    of (operation.Case (record { constant = pos 1; target = 7 } ∷ record { constant = pos 2; target = 8 } ∷ [])) (number 2 ∷
    []) [] ∷
    of (operation.Return None) [] [] ∷ of (operation.Call 0 [] 0 false) [] [] ∷ of (operation.Call 1 [] 0 false) [] [] ∷
    of (operation.Leave 0 9) [] [] ∷ []) ≡
    Leaves [] [] 8 ∷ Leaves [] [] 8 ∷ Leaves [] [] 5 ∷ Leaves [] [] 8 ∷ Returns ∷ OfNoCode [] ∷ Sticks ∷ Sticks ∷ []

-- ---- objects: the third one gets root 4

abbrev pub root_after : Operation → List Operand → (root : ℕ) → Option (List Cell)
root_after o operands r = elim (row [] o (scene operands some_cells)) as (λ o. Option (List Cell)) [
  | Done x s ↦ s.roots r
  | Fault n s ↦ None
  | Limit n s ↦ None
  | Missing path ↦ None
  | Ended s ↦ None
  | Lacking ↦ None
  | Stuck ↦ None
]

abbrev pub ObjectRows : Type 0
ObjectRows =
    (map tried (with_cells (operation.New 2) (ref 1 1 ∷ []) ∷ with_cells operation.Dispose (pointer 1 ∷ []) ∷ []) ≡
    set_to (cell.Int (pos 3) ∷ cell.Ptr 3 ∷ cell.Int (pos 5) ∷ cell.Int (pos 6) ∷ []) ∷ kept [] ∷ []) ×
    (root_after (operation.New 2) (ref 1 1 ∷ []) 4 ≡ Some (cell.Undef ∷ cell.Undef ∷ [])) ×
    (root_after operation.Dispose (pointer 1 ∷ []) 2 ≡ None) ×
    (root_after operation.Dispose (pointer 1 ∷ []) 1 ≡ Some some_cells)

-- ---- each relation: numbers 1 and 2, the sets [1] and [1, 2], object 1 and nil, the strings 'ab' and 'b'

abbrev related : Operand → Operand → List Seen
related x y = map (λ r. tried (on (operation.Cmp r) (y ∷ x ∷ [])))
    (relation.Equal ∷ relation.NotEqual ∷ relation.Less ∷ relation.LessOrEqual ∷ relation.Greater ∷ relation.GreaterOrEqual ∷
    [])

abbrev string : List ℕ → Operand
string bytes = Block (map (λ b. cell.Int (pos b)) bytes)

abbrev truths : List ℕ → List Seen
truths ns = map (λ n. puts (number n ∷ [])) ns

abbrev pub Relations : Type 0
Relations =
    (related (number 1) (number 2) ≡ truths (0 ∷ 1 ∷ 1 ∷ 1 ∷ 0 ∷ 0 ∷ [])) ×
    (related (number 2) (number 2) ≡ truths (1 ∷ 0 ∷ 0 ∷ 1 ∷ 0 ∷ 1 ∷ [])) ×
    (related (set (1 ∷ [])) (set (1 ∷ 2 ∷ [])) ≡ truths (0 ∷ 1 ∷ 0 ∷ 1 ∷ 1 ∷ 0 ∷ [])) ×
    (related (pointer 1) (pointer 0) ≡ truths (0 ∷ 1 ∷ 0 ∷ 0 ∷ 1 ∷ 1 ∷ [])) ×
    (related (string (codes "ab")) (string (codes "b")) ≡ truths (0 ∷ 1 ∷ 1 ∷ 1 ∷ 0 ∷ 0 ∷ []))

-- ---- the number of a block is given where it is first named

abbrev blocks_after : Outcome (Unit {0}) → List Path
blocks_after (Done x s) = s.blocks
blocks_after o = []

abbrev named_twice : State → State
named_twice s = record s { blocks = [] ∷ [] }

abbrev other : Path
other = record { name = codes "q"; nth = 1 } ∷ []

abbrev pub BlockNumbers : Type 0
BlockNumbers =
    (blocks_after (row [] (operation.Proc 0 []) (scene [] [])) ≡ [] ∷ []) ×
    (blocks_after (row [] (operation.Proc 0 []) (named_twice (scene [] []))) ≡ [] ∷ []) ×
    (blocks_after (row [] (operation.Proc 0 other) (named_twice (scene [] []))) ≡ [] ∷ other ∷ []) ×
    (seen (row [] (operation.Proc 0 other) (named_twice (scene [] []))) ≡ Leaves (One (cell.Code 1 1) ∷ []) [] 5)
