-- What is seen of a machine from outside: its live activations and objects.
use Rattle.std.specs.Prelude.{ℕ, zero, suc, List, [], ◌∷◌, Option, Some, None, nat_eq, position, slice_get}
use Rattle.mp_code.specs.declared.instructions.Instr.{Instr}
use Rattle.mp_machine.specs.Blocks.{Path}
use Rattle.mp_machine.specs.Activations.{Activation}
use Rattle.mp_machine.specs.declared.objects.Object.{Object}
use Rattle.mp_machine.specs.States.{State, Codes, activations_in}
use Rattle.mp_machine.specs.Outcomes.{Outcome, Done, Fault, Limit, Missing, Ended, Lacking, Stuck}
use Rattle.mp_machine.specs.Steps.{next_instruction, step}

-- ---- activations

-- A live activation: its block, the ordinal of the instruction that it executed last, its root, and how many newer ones
-- live beside its static parent; the program's has none.
pub record Act : Type 0 where
  pub path : Path
  pub ordinal : ℕ
  pub root : ℕ
  pub parent : Option ℕ

abbrev pub act_of : List Activation → (ordinal : ℕ) → Activation → Act
act_of all ordinal a = record {
  path = a.block;
  ordinal = ordinal;
  root = a.number;
  parent =
      position (λ b. nat_eq b.number a.parent) all;
}

-- the newest first; each but the newest has executed the call of the next newer one
abbrev pub acts_from : List Activation → (ordinal : ℕ) → List Activation → List Act
acts_from all ordinal [] = []
acts_from all ordinal (a ∷ older) = act_of all ordinal a ∷ acts_from all a.from older

abbrev pub ordinal_or : ℕ → Option Instr → ℕ
ordinal_or k None = k
ordinal_or k (Some i) = i.ordinal

-- where the newest is: before the call of a block without code at that call, and else where it executed its last
-- instruction, or begins
abbrev pub ordinal_before : Option Instr → ℕ → Outcome (Unit {0}) → ℕ
ordinal_before i k (Missing path) = ordinal_or k i
ordinal_before i k (Done x t) = k
ordinal_before i k (Fault number t) = k
ordinal_before i k (Limit number t) = k
ordinal_before i k (Ended t) = k
ordinal_before i k Lacking = k
ordinal_before i k Stuck = k

abbrev pub newest_ordinal : Codes → State → ℕ
newest_ordinal codes s = ordinal_before (next_instruction codes s) s.at (step codes s)

abbrev pub acts : Codes → State → List Act
acts codes s = acts_from (activations_in s.frames) (newest_ordinal codes s) (activations_in s.frames)

-- ---- objects

abbrev pub root_while : {A : Type 0} → ℕ → Option A → Option ℕ
root_while r None = None
root_while r (Some x) = Some r

abbrev pub root_if_live : State → Option Object → Option ℕ
root_if_live s None = None
root_if_live s (Some o) = root_while o.root (s.roots o.root)

-- the root of the live object of the number
abbrev pub object_root : State → (number : ℕ) → Option ℕ
object_root s zero = None
object_root s (suc k) = root_if_live s (slice_get s.objects k)
