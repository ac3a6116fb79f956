-- The shape of a block's code: how many operands stand before each instruction, and where it leads.
use Rattle.std.specs.Prelude.{◌≡◌, ℕ, ◌+◌, ◌-◌, ◌<◌, ◌≤◌, Bool, true, false, not, ◌&&◌, ◌||◌, List, [], ◌∷◌, ◌++◌, length, map, Option, Some, None, nat_eq, nat_le, nat_lt, slice_get, MatchOption}
use Rattle.std.specs.List.{list_all, list_any, range_with_len}
use Rattle.mp_code.specs.declared.instructions.Instr.{Instr}
use Rattle.mp_code.specs.declared.instructions.CaseArm.{CaseArm}
use Rattle.mp_code.specs.declared.instructions.Operation.{Operation}
use Rattle.mp_code.specs.declared.instructions.Operation.TheVariants as operation
use Rattle.mp_code.specs.declared.instructions.FileOperation.{FileOperation}
use Rattle.mp_code.specs.declared.instructions.FileOperation.TheVariants as file
use Rattle.mp_code.specs.declared.check.TheConstants.{OPERAND_LIMIT}
use Rattle.mp_code.specs.BlockCode.{BlockCode}

-- ---- how many operands an instruction takes and puts

abbrev pub file_takes : FileOperation → ℕ
file_takes file.WriteInt = 3
file_takes file.WriteChar = 3
file_takes file.WriteBool = 3
file_takes file.WriteChars = 3
file_takes _ = 1

abbrev pub file_puts : FileOperation → ℕ
file_puts file.Eof = 1
file_puts file.Eoln = 1
file_puts file.ReadInt = 1
file_puts file.ReadChar = 1
file_puts _ = 0

abbrev pub takes : Operation → ℕ
takes operation.Dup = 1
takes operation.Load = 1
takes operation.Store = 2
takes (operation.Clear cells) = 1
takes (operation.LoadMany cells) = 1
takes (operation.StoreMany cells) = 2
takes (operation.Offset cells) = 1
takes (operation.Index low high size) = 2
takes operation.Follow = 1
takes (operation.Active offset constants) = 1
takes (operation.Choose offset constant constants cells) = 1
takes (operation.Tag groups cells) = 2
takes operation.Add = 2
takes operation.Sub = 2
takes operation.Mul = 2
takes operation.Div = 2
takes operation.Mod = 2
takes operation.Neg = 1
takes operation.Odd = 1
takes operation.Not = 1
takes operation.And = 2
takes operation.Or = 2
takes (operation.Range low high fault) = 1
takes (operation.Within low high) = 1
takes (operation.Cmp relation) = 2
takes operation.Has = 2
takes operation.One = 2
takes operation.Span = 3
takes operation.Union = 2
takes operation.Meet = 2
takes operation.Less = 2
takes (operation.False target) = 1
takes (operation.Case arms) = 1
takes (operation.Call depth path operands is_function) = operands
takes (operation.CallBy operands is_function) = operands + 1
takes (operation.New cells) = 1
takes operation.Dispose = 1
takes (operation.File f) = file_takes f
takes _ = 0

abbrev pub result_count : (is_function : Bool) → ℕ
result_count true = 1
result_count false = 0

abbrev pub puts : Operation → ℕ
puts (operation.Int value) = 1
puts operation.Nil = 1
puts operation.Empty = 1
puts (operation.Chars bytes) = 1
puts (operation.Proc depth path) = 1
puts (operation.Addr depth offset) = 1
puts (operation.FileAt f) = 1
puts operation.Dup = 2
puts operation.Load = 1
puts (operation.LoadMany cells) = 1
puts (operation.Offset cells) = 1
puts (operation.Index low high size) = 1
puts operation.Follow = 1
puts (operation.Active offset constants) = 1
puts (operation.Choose offset constant constants cells) = 1
puts operation.Add = 1
puts operation.Sub = 1
puts operation.Mul = 1
puts operation.Div = 1
puts operation.Mod = 1
puts operation.Neg = 1
puts operation.Odd = 1
puts operation.Not = 1
puts operation.And = 1
puts operation.Or = 1
puts (operation.Range low high fault) = 1
puts (operation.Within low high) = 1
puts (operation.Cmp relation) = 1
puts operation.Has = 1
puts operation.One = 1
puts operation.Span = 1
puts operation.Union = 1
puts operation.Meet = 1
puts operation.Less = 1
puts (operation.Call depth path operands is_function) = result_count is_function
puts (operation.CallBy operands is_function) = result_count is_function
puts (operation.File f) = file_puts f
puts _ = 0

-- ---- where it leads

abbrev pub target_of : CaseArm → ℕ
target_of arm = arm.target

abbrev pub targets : Operation → List ℕ
targets (operation.Jump target) = target ∷ []
targets (operation.False target) = target ∷ []
targets (operation.Case arms) = map target_of arms
targets _ = []

-- the next instruction may follow
abbrev pub goes_on : Operation → Bool
goes_on (operation.Jump target) = false
goes_on (operation.Case arms) = false
goes_on (operation.Leave depth label) = false
goes_on (operation.Return cell) = false
goes_on _ = true

-- it stands where no operand is
abbrev pub is_bare : Operation → Bool
is_bare operation.Stmt = true
is_bare (operation.Leave depth label) = true
is_bare (operation.Return cell) = true
is_bare _ = false

abbrev pub next_index : Bool → ℕ → List ℕ
next_index true k = (k + 1) ∷ []
next_index false k = []

-- the indexes that an instruction at the index leads to
abbrev pub successors : ℕ → Operation → List ℕ
successors k o = next_index (goes_on o) k ++ targets o

-- ---- the clauses, each a test that it fails at an index

abbrev pub is_depth : ℕ → Option ℕ → Bool
is_depth d None = false
is_depth d (Some e) = nat_eq e d

-- inside, where that many operands stand
abbrev pub leads_well : BlockCode → (depth : ℕ) → ℕ → Bool
leads_well code d k = nat_lt k (length code.instructions) && is_depth d (slice_get code.depths k)

abbrev pub is_right : BlockCode → ℕ → (depth : ℕ) → Operation → Bool
is_right code k e o =
    (nat_le (takes o) e && list_all (leads_well code (e - takes o + puts o)) (successors k o)) &&
    ((not (is_bare o) || nat_eq e 0) && nat_le e OPERAND_LIMIT)

abbrev pub instruction_is_right : BlockCode → ℕ → Option Instr → Option ℕ → Bool
instruction_is_right code k (Some i) (Some e) = is_right code k e i.operation
instruction_is_right code k None e = true
instruction_is_right code k (Some i) None = true

-- the lesser length
abbrev pub shorter : BlockCode → ℕ
shorter code = elim (nat_le (length code.depths) (length code.instructions)) as (λ is. ℕ) [
  | true ↦ length code.depths
  | false ↦ length code.instructions
]

abbrev pub is_wrong_label : BlockCode → ℕ → Bool
is_wrong_label code k = list_any (λ pair. nat_eq pair.1 k) code.labels && not (leads_well code 0 k)

abbrev pub is_wrong_start : BlockCode → ℕ → Bool
is_wrong_start code k = nat_eq k 0 && not (leads_well code 0 0)

abbrev pub is_wrong_length : BlockCode → ℕ → Bool
is_wrong_length code k = nat_eq k (shorter code) && not (nat_eq (length code.depths) (length code.instructions))

abbrev pub is_wrong_instruction : BlockCode → ℕ → Bool
is_wrong_instruction code k = not (instruction_is_right code k (slice_get code.instructions k) (slice_get code.depths k))

-- a clause fails at the index
abbrev pub fails_at : BlockCode → ℕ → Bool
fails_at code k = (is_wrong_start code k || is_wrong_length code k) || (is_wrong_label code k || is_wrong_instruction code k)

-- code that the machine takes
abbrev pub IsShaped : BlockCode → Type 0
IsShaped code = (k : ℕ) → fails_at code k ≡ false

-- what the code of a block is
pub record IsCode (code : BlockCode) : Type 0 where
  pub shaped : IsShaped code
  pub counted : code.counted ≤ code.frame

-- ---- the least index at which one fails: it is one of these

abbrev pub lesser_of : ℕ → Option ℕ → Option ℕ
lesser_of k None = Some k
lesser_of k (Some j) = elim (nat_le k j) as (λ is. Option ℕ) [ true ↦ Some k | false ↦ Some j ]

abbrev pub least_that : (ℕ → Bool) → List ℕ → Option ℕ
least_that test [] = None
least_that test (k ∷ more) = elim (test k) as (λ passes. Option ℕ) [ true ↦ lesser_of k (least_that test more) | false ↦ least_that test more ]

abbrev pub suspects : BlockCode → List ℕ
suspects code = range_with_len 0 (length code.instructions + 1) ++ map (λ pair. pair.1) code.labels

abbrev pub first_bad : BlockCode → Option ℕ
first_bad code = least_that (fails_at code) (suspects code)

pub record IsFirstBad (code : BlockCode) (k : ℕ) : Type 0 where
  pub fails : fails_at code k ≡ true
  pub least : (j : ℕ) → j < k → fails_at code j ≡ false

-- It is the least index at which a clause fails, and there is none exactly where no clause does.
abbrev pub FirstBadIsLeast : Type 0
FirstBadIsLeast = (code : BlockCode) → MatchOption (first_bad code) (IsShaped code) (λ k. IsFirstBad code k)
