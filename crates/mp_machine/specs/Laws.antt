-- Laws of the table and of steps.
use Rattle.std.specs.Prelude.{◌≡◌, ℕ, ◌+◌, ◌<◌, ◌≤◌, Bool, true, false, List, [], ◌∷◌, ◌++◌, Some, None, slice_get}
use Rattle.mp_code.specs.declared.instructions.Instr.{Instr}
use Rattle.mp_code.specs.declared.instructions.Operation.{Operation}
use Rattle.mp_code.specs.declared.instructions.Operation.TheVariants as operation
use Rattle.mp_code.specs.BlockCode.{BlockCode}
use Rattle.mp_memory.specs.Roots.{Roots}
use Rattle.mp_machine.specs.Blocks.{Path}
use Rattle.mp_files.specs.TextFiles.{TextFile}
use Rattle.mp_machine.specs.Activations.{Activation, holder}
use Rattle.mp_machine.specs.declared.answers.Gone.{Gone}
use Rattle.mp_machine.specs.declared.answers.Gone.TheVariants as gone
use Rattle.mp_machine.specs.States.{Frame, State, Codes, code_of, activations_in, output_of}
use Rattle.mp_machine.specs.Outcomes.{Outcome, Done, Fault, Limit, Missing, Ended, Lacking, Stuck}
use Rattle.mp_machine.specs.Table.{row}
use Rattle.mp_machine.specs.Steps.{Machine, Answered, step, answer}
use Rattle.mp_machine.specs.Runs.{Run, Steps, Reached}

-- ---- what ended stays ended

abbrev pub IsOver : Gone → Type 0
IsOver gone.Ended = Unit {0}
IsOver (gone.Fault number place) = Unit {0}
IsOver (gone.Limit which place) = Unit {0}
IsOver gone.Went = ⊥
IsOver (gone.AtStatement place) = ⊥
IsOver (gone.Missing path) = ⊥
IsOver gone.Memory = ⊥

-- After its ending, a fault or a limit the machine answers that again, whatever codes are loaded since.
abbrev pub EndedStaysEnded : Type 0
EndedStaysEnded = (codes later : Codes) (m : Machine) (a : Answered) → answer codes m ≡ Some a → IsOver a.answer →
    answer later a.machine ≡ Some a

-- ---- a block without code

abbrev pub HasNoCode : Codes → Path → Type 0
HasNoCode codes path = code_of codes path ≡ None

-- `Missing` changes nothing; the block has no code
abbrev pub MissingChangesNothing : Type 0
MissingChangesNothing = (codes : Codes) (m : Machine) (a : Answered) (path : Path) → m.over ≡ None → answer codes m ≡ Some a →
    a.answer ≡ gone.Missing path → (a.machine ≡ m) × HasNoCode codes path

-- ---- where a row leads, the state after it is so, and so is the path of a block that is missing

abbrev pub Leads : {A : Type 0} → (State → State → Type 0) → (Path → Type 0) → State → Outcome A → Type 0
Leads R P s (Done x t) = R s t
Leads R P s (Fault number t) = R s t
Leads R P s (Limit number t) = R s t
Leads R P s (Ended t) = R s t
Leads R P s (Missing path) = P path
Leads R P s Lacking = Unit {0}
Leads R P s Stuck = Unit {0}

-- the second list begins with the first
abbrev pub IsLonger : {A : Type 0} → List A → List A → Type 0
IsLonger {A} xs ys = (more : List A) × (ys ≡ xs ++ more)

-- ---- what each step keeps

-- no root has a number that is still to be given
abbrev pub AreFresh : Roots → (next : ℕ) → Type 0
AreFresh roots next = (r : ℕ) → next ≤ r → roots r ≡ None

-- Activations are numbered upward from the oldest, below this number; a static parent is older.
abbrev pub AreInOrder : (below : ℕ) → List Frame → Type 0
AreInOrder n [] = Unit {0}
AreInOrder n (f ∷ older) = (f.activation.number < n) × (f.activation.parent < f.activation.number) ×
    AreInOrder f.activation.number older

pub record Later (s t : State) : Type 0 where
  -- The number of a root is never used again: numbers go upward, and what was dropped never comes back.
  pub numbers : s.next_root ≤ t.next_root
  pub dropped : (r : ℕ) → r < s.next_root → s.roots r ≡ None → t.roots r ≡ None
  pub fresh : AreFresh s.roots s.next_root → AreFresh t.roots t.next_root
  pub order : AreInOrder s.next_root s.frames → AreInOrder t.next_root t.frames
  -- Objects and blocks keep their numbers.
  pub objects : IsLonger s.objects t.objects
  pub blocks : IsLonger s.blocks t.blocks
  -- What was written to `output` stays.
  pub output : (f : TextFile) → slice_get s.files 1 ≡ Some f → (g : TextFile) × (slice_get t.files 1 ≡ Some g) ×
      IsLonger f.before g.before
  pub written : s.written ≤ t.written

abbrev pub StepsKeep : Type 0
StepsKeep = (codes : Codes) (s : State) → Leads Later (HasNoCode codes) s (step codes s)

-- so the bytes of `output` only grow
abbrev pub OutputGrows : Type 0
OutputGrows = (s t : State) → Later s t → (f : TextFile) → slice_get s.files 1 ≡ Some f → IsLonger (output_of s) (output_of t)

-- ---- only calls and `New` add an activation or a root

abbrev pub adds_a_root : Operation → Bool
adds_a_root (operation.Call depth path operands is_function) = true
adds_a_root (operation.CallBy operands is_function) = true
adds_a_root (operation.New cells) = true
adds_a_root _ = false

pub record Quiet (s t : State) : Type 0 where
  pub numbers : t.next_root ≡ s.next_root
  pub dropped : (r : ℕ) → s.roots r ≡ None → t.roots r ≡ None
  -- some of the newest may have ended
  pub activations : (over : List Activation) × (activations_in s.frames ≡ over ++ activations_in t.frames)

abbrev pub OthersAddNone : Type 0
OthersAddNone = (codes : Codes) (o : Operation) (s : State) → adds_a_root o ≡ false → Leads Quiet (λ path. ⊥) s (row codes o s)

-- ---- runs

-- What `Later` keeps is so at the start, and so in each run from there.
pub record IsInOrder (s : State) : Type 0 where
  pub fresh : AreFresh s.roots s.next_root
  pub order : AreInOrder s.next_root s.frames
  pub output : (f : TextFile) × (slice_get s.files 1 ≡ Some f)

abbrev pub RunsKeep : Type 0
RunsKeep = (codes : Codes) (r t : Run) → Steps codes r t → Later r.state t.state

abbrev pub RunsAreInOrder : Type 0
RunsAreInOrder = (codes : Codes) (main : BlockCode) (input : List ℕ) (starts : ℕ) (s : State) → Reached codes main
    input starts s → IsInOrder s

-- ---- the next step, where the newest activation and its instruction are known

abbrev pub StepIsRow : Type 0
StepIsRow = (codes : Codes) (s : State) (f : Frame) (older : List Frame) (code : BlockCode) (i : Instr) →
    s.frames ≡ f ∷ older → code_of codes f.activation.block ≡ Some code → slice_get code.instructions f.next ≡ Some i →
    step codes s ≡ row codes i.operation (record s { frames = record f { next = f.next + 1 } ∷ older; at = i.ordinal })

-- A call is `Missing` exactly where the called block has no code.
abbrev pub IsMissing : Outcome (Unit {0}) → Path → Type 0
IsMissing o path = o ≡ Missing path

abbrev pub CallsOfNoCode : Type 0
CallsOfNoCode = (codes : Codes) (s : State) (d : ℕ) (path : Path) (n : ℕ) (is_function : Bool) (parent : ℕ) →
    holder (activations_in s.frames) d ≡ Some parent → code_of codes path ≡ None →
    IsMissing (row codes (operation.Call d path n is_function) s) path
