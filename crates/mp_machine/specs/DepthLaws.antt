-- Code that has its shape keeps the depths that it names: no step wants for an operand or an instruction.
use Rattle.std.specs.Prelude.{◌≡◌, ℕ, ◌+◌, Bool, List, [], ◌∷◌, length, Some, slice_get}
use Rattle.mp_code.specs.BlockCode.{BlockCode}
use Rattle.mp_code.specs.Shape.{IsShaped, result_count}
use Rattle.mp_machine.specs.Activations.{Activation}
use Rattle.mp_machine.specs.declared.operands.Operand.{Operand}
use Rattle.mp_machine.specs.States.{Frame, State, Codes, code_of}
use Rattle.mp_machine.specs.Outcomes.{Outcome, Done, Fault, Limit, Missing, Ended, Lacking, Stuck}
use Rattle.mp_machine.specs.CallRows.{label_in}
use Rattle.mp_machine.specs.Steps.{step}

-- the code has so many operands before the instruction at the index
abbrev pub HasDepth : BlockCode → (index count : ℕ) → Type 0
HasDepth code k n = slice_get code.depths k ≡ Some n

-- Where a step leads from an activation with this code, which stands on these older frames.
pub data Leading (codes : Codes) (code : BlockCode) (a : Activation) (older : List Frame) (t : State) : Type 0 where
  -- it goes on at its depth
  Onward : (f : Frame) → t.frames ≡ f ∷ older → f.activation ≡ a → HasDepth code f.next (length f.operands) →
      Leading codes code a older t
  -- it has called a block, and stands at its depth with the result that the call puts
  Entered : (new f : Frame) (callee : BlockCode) (is_function : Bool) → t.frames ≡ new ∷ f ∷ older → f.activation ≡ a →
      HasDepth code f.next (length f.operands + result_count is_function) →
      code_of codes new.activation.block ≡ Some callee → new.next ≡ 0 → new.operands ≡ [] → Leading codes code a older t
  -- it has returned, with a cell or none
  Returned : (f : Frame) (rest : List Frame) (gives : Bool) (xs : List Operand) → older ≡ f ∷ rest →
      t.frames ≡ record f { operands = xs } ∷ rest → length xs ≡ length f.operands + result_count gives →
      Leading codes code a older t
  -- it has jumped to a label of an activation, which is the newest and has no operand
  Left : (f : Frame) (rest : List Frame) (label : ℕ) → t.frames ≡ f ∷ rest → f.operands ≡ [] → label_in
      (code_of codes f.activation.block) label ≡ Some f.next → Leading codes code a older t

abbrev pub IsServed : {A : Type 0} → (State → Type 0) → Outcome A → Type 0
IsServed Q (Done x t) = Q t
IsServed Q Lacking = ⊥
IsServed Q (Fault number t) = Unit {0}
IsServed Q (Limit number t) = Unit {0}
IsServed Q (Missing path) = Unit {0}
IsServed Q (Ended t) = Unit {0}
IsServed Q Stuck = Unit {0}

abbrev pub DepthsAreKept : Type 0
DepthsAreKept = (codes : Codes) (s : State) (f : Frame) (older : List Frame) (code : BlockCode) →
    s.frames ≡ f ∷ older → code_of codes f.activation.block ≡ Some code → IsShaped code →
    HasDepth code f.next (length f.operands) →
    IsServed (Leading codes code f.activation older) (step codes s)

-- A new activation and one that was left stand at the depth of their code, where that has its shape.
abbrev pub BeginningsHaveDepthZero : Type 0
BeginningsHaveDepthZero = (code : BlockCode) → IsShaped code → HasDepth code 0 0

abbrev pub LabelsHaveDepthZero : Type 0
LabelsHaveDepthZero = (code : BlockCode) (label k : ℕ) → IsShaped code → label_in (Some code) label ≡ Some k → HasDepth code k 0
