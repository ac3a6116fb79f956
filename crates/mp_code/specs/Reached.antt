-- Where a block's code can be come to, and with how many operands: the first index, the index of a label, and the
-- indexes that an instruction leads to.
use Rattle.std.specs.Prelude.{◌≡◌, ℕ, ◌+◌, ◌-◌, ◌≤◌, Bool, true, List, Some, nat_eq, slice_get}
use Rattle.std.specs.List.{list_any}
use Rattle.mp_code.specs.declared.instructions.Instr.{Instr}
use Rattle.mp_code.specs.declared.check.TheConstants.{OPERAND_LIMIT}
use Rattle.mp_code.specs.BlockCode.{BlockCode, index_of_label}
use Rattle.mp_code.specs.Shape.{IsShaped, takes, puts, successors, is_bare}

-- the index is one of these
abbrev pub is_one_of : List ℕ → ℕ → Bool
is_one_of indexes k = list_any (λ j. nat_eq j k) indexes

pub data Reached (code : BlockCode) : (index depth : ℕ) → Type 0 where
  Begun : Reached code 0 0
  Labelled : (label k : ℕ) → index_of_label code.labels label ≡ Some k → Reached code k 0
  Led : (k depth m : ℕ) (i : Instr) → Reached code k depth → slice_get code.instructions k ≡ Some i → is_one_of (successors k i.operation) m ≡ true
      → Reached code m (depth - takes i.operation + puts i.operation)

-- there is an instruction, which has its operands
pub record IsServed (code : BlockCode) (k depth : ℕ) (i : Instr) : Type 0 where
  pub instruction : slice_get code.instructions k ≡ Some i
  pub operands : slice_get code.depths k ≡ Some depth
  pub enough : takes i.operation ≤ depth
  pub bare : is_bare i.operation ≡ true → depth ≡ 0
  pub small : depth ≤ OPERAND_LIMIT

-- Code of the right shape stays inside: wherever it is come to, an instruction stands that has its operands.
abbrev pub ReachedIsServed : Type 0
ReachedIsServed = (code : BlockCode) (k depth : ℕ) → IsShaped code → Reached code k depth → (i : Instr) × IsServed code k depth i
