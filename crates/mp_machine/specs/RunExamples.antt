-- Runs of small codes, written by hand: calls with operands below, jumps out of activations, procedural values, objects,
-- files, and the limits.
use Rattle.std.specs.Prelude.{◌≡◌, ℕ, zero, suc, ◌+◌, Bool, true, false, List, [], ◌∷◌, ◌++◌, map, replicate, nat_eq, Option}
use Rattle.std.specs.Prelude.{Some, None, codes, pos}
use Rattle.mp_base.specs.declared.path.PathStep.{PathStep}
use Rattle.mp_code.specs.declared.instructions.Instr.{Instr}
use Rattle.mp_code.specs.declared.instructions.Operation.{Operation}
use Rattle.mp_code.specs.declared.instructions.Operation.TheVariants as operation
use Rattle.mp_code.specs.declared.instructions.Relation.TheVariants as relation
use Rattle.mp_code.specs.declared.instructions.RequiredFile.TheVariants as required
use Rattle.mp_code.specs.declared.instructions.FileOperation.TheVariants as file
use Rattle.mp_code.specs.BlockCode.{BlockCode}
use Rattle.mp_code.specs.Shape.{first_bad}
use Rattle.mp_machine.specs.Blocks.{Path}
use Rattle.mp_machine.specs.declared.answers.Gone.TheVariants as gone
use Rattle.mp_machine.specs.declared.answers.Gone.{Gone}
use Rattle.mp_machine.specs.States.{State, Codes}
use Rattle.mp_machine.specs.Table.{row}
use Rattle.mp_machine.specs.CallRows.{must_have_room}
use Rattle.mp_machine.specs.Steps.{Answered, Machine, answer, program_alone, start}
use Rattle.mp_machine.specs.Runs.{Report, watch}
use Rattle.mp_machine.specs.Views.{Act, acts, object_root}
use Rattle.mp_machine.specs.RowExamples.{ref, frame, scene, Seen, Limits, Leaves, seen}

-- ---- codes

-- with these ordinals from the first on
abbrev pub numbered : ℕ → List Operation → List Instr
numbered k [] = []
numbered k (o ∷ more) = record { ordinal = k; operation = o } ∷ numbered (suc k) more

-- one operation with its depth a line
infixr 5 ◌at◌
abbrev pub ◌at◌ : Operation → ℕ → Operation × ℕ
o at d = (o, d)

abbrev pub code_from : ℕ → (cells : ℕ) → List (ℕ × ℕ) → List (Operation × ℕ) → BlockCode
code_from k cells labels lines = record {
  instructions = numbered k (map (λ l. l.0) lines);
  depths = map (λ l. l.1) lines;
  labels = labels;
  frame = cells;
  counted = cells;
}

abbrev pub named : List ℕ → PathStep
named letters = record { name = letters; nth = 1 }

abbrev pub run_of : Codes → BlockCode → (input : List ℕ) → (steps : ℕ) → Report
run_of others main input steps = watch (record { path = []; code = main } ∷ others) steps [] (start main input)

abbrev pub ends : Gone → List ℕ → List ℕ → Report
ends g starts output = record { ending = Some g; starts = starts; output = output }

-- the lines that write an integer, with so many operands below
abbrev pub written : Operation → (width : ℕ) → (depth : ℕ) → List (Operation × ℕ)
written value width d =
    (operation.FileAt required.Output at d) ∷ (value at d + 1) ∷ (operation.Int (pos width) at d + 2) ∷
    (operation.File file.WriteInt at d + 3) ∷ []

-- ---- function f(n: integer): integer; begin f := n * n end; and write(10 - f(3): 5), with 10 below the call

abbrev f : Path
f = named (codes "f") ∷ []

abbrev square : BlockCode
square = code_from 100 2 [] (
    (operation.Stmt at 0) ∷ (operation.Addr 1 1 at 0) ∷ (operation.Addr 1 0 at 1) ∷ (operation.Load at 2) ∷
    (operation.Dup at 2) ∷ (operation.Mul at 3) ∷
    (operation.Store at 2) ∷ (operation.Return (Some 1) at 0) ∷ [])

abbrev below : BlockCode
below = code_from 0 0 [] (
    (operation.Stmt at 0) ∷ (operation.FileAt required.Output at 0) ∷ (operation.Int (pos 10) at 1) ∷
    (operation.Int (pos 3) at 2) ∷
    (operation.Call 0 f 1 true at 3) ∷ (operation.Sub at 3) ∷ (operation.Int (pos 5) at 2) ∷
    (operation.File file.WriteInt at 3) ∷ (operation.Return None at 0) ∷ [])

abbrev pub FunctionRun : Type 0
FunctionRun = run_of (record { path = f; code = square } ∷ []) below [] 50 ≡ ends gone.Ended (0 ∷ 100 ∷ []) (codes "    1")

-- a function whose result is undefined: fault 9 at the statement that calls it
abbrev no_result : BlockCode
no_result = code_from 100 2 [] ((operation.Stmt at 0) ∷ (operation.Return (Some 1) at 0) ∷ [])

abbrev pub NoResultRun : Type 0
NoResultRun = run_of (record { path = f; code = no_result } ∷ []) below [] 50 ≡ ends
    (gone.Fault 9 (record { path = []; ordinal = 4 })) (0 ∷ 100 ∷ []) []

-- without code for it
abbrev pub MissingRun : Type 0
MissingRun = run_of [] below [] 50 ≡ ends (gone.Missing f) (0 ∷ []) []

-- ---- a goto out of a function that called itself, in the middle of an expression: the operands below are dropped

abbrev again : BlockCode
again = code_from 100 1 [] (
    (operation.Stmt at 0) ∷ (operation.Addr 1 0 at 0) ∷ (operation.Load at 1) ∷ (operation.False 9 at 1) ∷
    (operation.Stmt at 0) ∷ (operation.Addr 1 0 at 0) ∷ (operation.Load at 1) ∷ (operation.Int (pos 1) at 1) ∷
    (operation.Jump 11 at 2) ∷
    (operation.Stmt at 0) ∷ (operation.Leave 0 9 at 0) ∷
    (operation.Sub at 2) ∷ (operation.Call 0 f 1 true at 1) ∷ (operation.Clear 1 at 1) ∷ (operation.Return None at 0) ∷ [])

abbrev outer : BlockCode
outer = code_from 0 0 ((9, 8) ∷ []) (
    (operation.Stmt at 0) ∷ (operation.Int (pos 77) at 0) ∷ (operation.Int (pos 3) at 1) ∷ (operation.Call 0 f 1 true at 2) ∷
    (operation.Add at 2) ∷ (operation.Neg at 1) ∷ (operation.Neg at 1) ∷ (operation.False 8 at 1) ∷
    (operation.Stmt at 0) ∷ written (operation.Int (pos 2)) 1 0 ++ (operation.Return None at 0) ∷ [])

abbrev pub LeaveRun : Type 0
LeaveRun = run_of (record { path = f; code = again } ∷ []) outer [] 100 ≡ ends gone.Ended (0 ∷ 100 ∷ 104 ∷ 100 ∷ 104 ∷ 100 ∷
    104 ∷ 100 ∷ 109 ∷ 8 ∷ []) (codes "2")

-- ---- procedure a(n: integer; procedure q); label 9; procedure g; begin goto 9 end;
-- begin if n = 1 then a(2, g) else q; write(7: 1); 9: write(n: 1) end; begin a(1, z) end
-- g is called with the first activation of a as its static parent, while the second lives

abbrev z : Path
z = named (codes "z") ∷ []

abbrev a : Path
a = named (codes "a") ∷ []

abbrev g : Path
g = named (codes "a") ∷ named (codes "g") ∷ []

abbrev nothing : BlockCode
nothing = code_from 100 0 [] ((operation.Stmt at 0) ∷ (operation.Return None at 0) ∷ [])

abbrev jumping : BlockCode
jumping = code_from 200 0 [] ((operation.Stmt at 0) ∷ (operation.Leave 1 9 at 0) ∷ (operation.Return None at 0) ∷ [])

abbrev twice : BlockCode
twice = code_from 300 2 ((9, 20) ∷ []) (
    (operation.Stmt at 0) ∷ (operation.Addr 1 0 at 0) ∷ (operation.Load at 1) ∷ (operation.Int (pos 1) at 1) ∷
    (operation.Cmp relation.Equal at 2) ∷ (operation.False 11 at 1) ∷
    (operation.Stmt at 0) ∷ (operation.Int (pos 2) at 0) ∷ (operation.Proc 1 g at 1) ∷ (operation.Call 0 a 2 false at 2) ∷
    (operation.Jump 15 at 0) ∷
    (operation.Stmt at 0) ∷ (operation.Addr 1 1 at 0) ∷ (operation.Load at 1) ∷ (operation.CallBy 0 false at 1) ∷
    (operation.Stmt at 0) ∷ written (operation.Int (pos 7)) 1 0 ++
    (operation.Stmt at 0) ∷ (operation.FileAt required.Output at 0) ∷ (operation.Addr 1 0 at 1) ∷ (operation.Load at 2) ∷
    (operation.Int (pos 1) at 2) ∷ (operation.File file.WriteInt at 3) ∷
    (operation.Return None at 0) ∷ [])

abbrev first_call : BlockCode
first_call = code_from 0 0 [] ((operation.Stmt at 0) ∷ (operation.Int (pos 1) at 0) ∷ (operation.Proc 0 z at 1) ∷
    (operation.Call 0 a 2 false at 2) ∷ (operation.Return None at 0) ∷ [])

abbrev with_procedures : Codes
with_procedures = record { path = z; code = nothing } ∷ record { path = a; code = twice } ∷
    record { path = g; code = jumping } ∷ []

abbrev pub ProcedureRun : Type 0
ProcedureRun = run_of with_procedures first_call [] 100 ≡ ends gone.Ended (0 ∷ 300 ∷ 306 ∷ 300 ∷ 311 ∷ 200 ∷ 320 ∷
    []) (codes "1")

-- ---- new(p); p^ := 5; q := p; write(q^: 1); dispose(p); write(q^: 1): fault 8

abbrev through_q : List (Operation × ℕ)
through_q =
    (operation.Stmt at 0) ∷ (operation.FileAt required.Output at 0) ∷ (operation.Addr 0 1 at 1) ∷ (operation.Load at 2) ∷
    (operation.Follow at 2) ∷ (operation.Load at 2) ∷
    (operation.Int (pos 1) at 2) ∷ (operation.File file.WriteInt at 3) ∷ []

abbrev pointers : BlockCode
pointers = code_from 0 2 [] (
    (operation.Stmt at 0) ∷ (operation.Addr 0 0 at 0) ∷ (operation.New 1 at 1) ∷
    (operation.Stmt at 0) ∷ (operation.Addr 0 0 at 0) ∷ (operation.Load at 1) ∷ (operation.Follow at 1) ∷
    (operation.Int (pos 5) at 1) ∷ (operation.Store at 2) ∷
    (operation.Stmt at 0) ∷ (operation.Addr 0 1 at 0) ∷ (operation.Addr 0 0 at 1) ∷ (operation.Load at 2) ∷
    (operation.Store at 2) ∷ through_q ++
    (operation.Stmt at 0) ∷ (operation.Addr 0 0 at 0) ∷ (operation.Load at 1) ∷ (operation.Dispose at 1) ∷ through_q ++
    (operation.Return None at 0) ∷ [])

abbrev pub PointerRun : Type 0
PointerRun = run_of [] pointers [] 100 ≡ ends (gone.Fault 8 (record { path = []; ordinal = 30 })) (0 ∷ 3 ∷ 9 ∷ 14 ∷ 22 ∷ 26 ∷
    []) (codes "5")

-- ---- read(n); write(n: 1); the rest of the line is left: read(c); write(c)

abbrev reads : BlockCode
reads = code_from 0 0 [] (
    (operation.Stmt at 0) ∷ (operation.FileAt required.Output at 0) ∷ (operation.FileAt required.Input at 1) ∷
    (operation.File file.ReadInt at 2) ∷ (operation.Int (pos 1) at 2) ∷ (operation.File file.WriteInt at 3) ∷
    (operation.Stmt at 0) ∷ (operation.FileAt required.Output at 0) ∷ (operation.FileAt required.Input at 1) ∷
    (operation.File file.ReadChar at 2) ∷ (operation.Int (pos 1) at 2) ∷ (operation.File file.WriteChar at 3) ∷
    (operation.FileAt required.Output at 0) ∷ (operation.File file.WriteLine at 1) ∷ (operation.Return None at 0) ∷ [])

abbrev pub ReadingRun : Type 0
ReadingRun = run_of [] reads (codes " 42x") 100 ≡ ends gone.Ended (0 ∷ 6 ∷ []) (codes "42x" ++ 10 ∷ [])

-- ---- all of them have the shape of code

abbrev pub HaveShape : Type 0
HaveShape = map first_bad (square ∷ below ∷ no_result ∷ outer ∷ again ∷ nothing ∷ jumping ∷ twice ∷ first_call ∷ pointers ∷
    reads ∷ []) ≡ replicate 11 None

-- ---- limits

-- a state with so many live activations, and the program's code with so many cells
abbrev crowd : ℕ → State
crowd n = record (scene [] []) {
  frames =
      replicate n (record (frame []) { activation = record (frame []).activation { cells = 0 } });
  objects = [];
}

abbrev of_cells : (counted : ℕ) → Codes
of_cells n = program_alone (record nothing { counted = n; frame = 2 })

abbrev call_it : Codes → State → Seen
call_it codes s = seen (row codes (operation.Call 0 [] 0 false) s)

abbrev pub CallLimits : Type 0
CallLimits =
    (call_it (of_cells 2000000) (crowd 4096) ∷ call_it (of_cells 1000001) (crowd 4095) ∷
    call_it (of_cells 999997) (scene [] []) ∷
    seen (row [] (operation.New 999994) (scene (ref 2 0 ∷ []) [])) ∷ []) ≡
    Limits 1 ∷ Limits 2 ∷ Limits 2 ∷ Limits 2 ∷ []

-- one less of each is no limit: 4 cells of the activation and 3 of the object live
abbrev pub BelowLimits : Type 0
BelowLimits =
    (seen (must_have_room 999993 (scene [] [])) ∷ seen (must_have_room 1000000 (crowd 4095)) ∷ []) ≡ Leaves [] [] 5 ∷
    Leaves [] [] 5 ∷ []

abbrev first_answer : BlockCode → Option Gone
first_answer main = elim (answer (program_alone main) (start main [])) as (λ a. Option Gone) [
  | None ↦ None
  | Some a ↦
      Some a.answer
]

abbrev pub StartLimit : Type 0
StartLimit = (first_answer (record nothing { counted = 1000001; frame = 0 }) ≡ Some
    (gone.Limit 2 (record { path = []; ordinal = 100 }))) ×
    (first_answer (record nothing { counted = 1000000; frame = 0 }) ≡ Some
    (gone.AtStatement (record { path = []; ordinal = 100 })))

-- ---- what is seen of the machine where `g` starts, and before a call of a block without code

abbrev stands_at : ℕ → Gone → Bool
stands_at k (gone.AtStatement place) = nat_eq place.ordinal k
stands_at k (gone.Missing path) = true
stands_at k _ = false

abbrev seen_where : Codes → ℕ → Option Answered → (Machine → List Act) → List Act
seen_where all k None later = []
seen_where all k (Some a) later = elim (stands_at k a.answer) as (λ stands. List Act) [
  | true ↦
      acts all a.machine.state
  | false ↦ later a.machine
]

-- the activations where this statement starts first, or where a block is missing
abbrev acts_at : Codes → ℕ → (steps : ℕ) → Machine → List Act
acts_at all k zero m = []
acts_at all k (suc n) m = seen_where all k (answer all m) (λ m. acts_at all k n m)

abbrev seen_of : Codes → BlockCode → ℕ → List Act
seen_of others main k = acts_at (record { path = []; code = main } ∷ others) k 100 (start main [])

abbrev pub ActsSeen : Type 0
ActsSeen =
    (seen_of with_procedures first_call 200 ≡
    record { path = g; ordinal = 200; root = 4; parent = Some 2 } ∷ record {
      path = a;
      ordinal = 314;
      root = 3;
      parent =
          Some 3;
    } ∷
    record { path = a; ordinal = 309; root = 2; parent = Some 3 } ∷ record {
      path = [];
      ordinal = 3;
      root = 1;
      parent =
          None;
    } ∷ []) ×
    (seen_of [] below 1000 ≡ record { path = []; ordinal = 4; root = 1; parent = None } ∷ [])

abbrev pub ObjectsSeen : Type 0
ObjectsSeen = map (object_root (scene [] [])) (0 ∷ 1 ∷ 2 ∷ 3 ∷ []) ≡ None ∷ Some 2 ∷ None ∷ None ∷ []
