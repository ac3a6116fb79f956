-- What a step of the machine needs, and what it promises.
use Rattle.std.specs.Prelude.{◌≡◌, ℕ, ◌-◌, ◌^◌, ◌<◌, Bool, true, false, ◌||◌, List, [], ◌∷◌, length, Option, Some, None}
use Rattle.mp_code.specs.declared.check.TheConstants.{OPERAND_LIMIT}
use Rattle.mp_code.specs.declared.instructions.Instr.{Instr}
use Rattle.mp_code.specs.declared.instructions.Operation.{Operation}
use Rattle.mp_code.specs.declared.instructions.Operation.TheVariants as operation
use Rattle.mp_machine.specs.declared.answers.Gone.{Gone}
use Rattle.mp_machine.specs.declared.answers.Gone.TheVariants as gone
use Rattle.mp_machine.specs.Machines.{LoadedMachine, machine_in, state_in}
use Rattle.mp_machine.specs.Outcomes.{Outcome, Done, Fault, Limit, Missing, Ended, Lacking, Stuck}
use Rattle.mp_machine.specs.Plays.{grows, wants_memory}
use Rattle.mp_machine.specs.States.{Codes, Frame, State}
use Rattle.mp_machine.specs.Steps.{answer, next_instruction, step}

-- ---- the condition of a step, all of it on the next instruction

-- The table has an answer: there is an instruction with its operands, these are of the kinds that it wants, and what they
-- and the instruction stand for is there.
abbrev pub IsAnswered : {A : Type 0} → Outcome A → Type 0
IsAnswered Lacking = ⊥
IsAnswered Stuck = ⊥
IsAnswered (Done x t) = Unit {0}
IsAnswered (Fault number t) = Unit {0}
IsAnswered (Limit number t) = Unit {0}
IsAnswered (Missing path) = Unit {0}
IsAnswered (Ended t) = Unit {0}

abbrev pub operand_count : List Frame → ℕ
operand_count [] = 0
operand_count (f ∷ older) = length f.operands

abbrev pub may_grow : Option Instr → Bool
may_grow None = false
may_grow (Some i) = grows i.operation

pub record HasRoom (codes : Codes) (s : State) : Type 0 where
  -- where the instruction may put more operands than it takes, the newest activation has fewer than code may have
  pub operands : may_grow (next_instruction codes s) ≡ true → operand_count s.frames < OPERAND_LIMIT
  -- fewer roots than there are numbers were given
  pub roots : s.next_root < 2 ^ 64 - 1

pub record IsReady (codes : Codes) (s : State) : Type 0 where
  pub answered : IsAnswered (step codes s)
  pub room : HasRoom codes s

-- ---- which steps may want memory

abbrev pub wants : Option Instr → Bool
wants None = false
wants (Some i) = wants_memory i.operation

-- a fault or a limit: its place has the path of the block
abbrev pub is_stopped : {A : Type 0} → Outcome A → Bool
is_stopped (Fault number t) = true
is_stopped (Limit number t) = true
is_stopped _ = false

-- one that is answered again
abbrev pub is_stop : Gone → Bool
is_stop (gone.Fault number place) = true
is_stop (gone.Limit which place) = true
is_stop gone.Memory = true
is_stop _ = false

abbrev pub may_want : LoadedMachine → Bool
may_want m = elim m.over as (λ over. Bool) [
  | Some g ↦ is_stop g
  | None ↦ wants (next_instruction m.codes (state_in m)) || is_stopped (step m.codes (state_in m))
]

-- ---- the promise: the machine answers what the table answers, and is the machine after it. Where memory is wanting, it
-- answers that for ever.

abbrev pub IsStep : LoadedMachine → Gone → LoadedMachine → Type 0
IsStep m gone.Memory n = (may_want m ≡ true) × (n.over ≡ Some gone.Memory)
IsStep m gone.Went n = answer m.codes (machine_in m) ≡ Some (record { answer = gone.Went; machine = machine_in n })
IsStep m (gone.AtStatement place) n = answer m.codes (machine_in m) ≡ Some (record { answer = gone.AtStatement place; machine = machine_in n })
IsStep m (gone.Missing path) n = answer m.codes (machine_in m) ≡ Some (record { answer = gone.Missing path; machine = machine_in n })
IsStep m gone.Ended n = answer m.codes (machine_in m) ≡ Some (record { answer = gone.Ended; machine = machine_in n })
IsStep m (gone.Fault number place) n = answer m.codes (machine_in m) ≡ Some (record { answer = gone.Fault number place; machine = machine_in n })
IsStep m (gone.Limit which place) n = answer m.codes (machine_in m) ≡ Some (record { answer = gone.Limit which place; machine = machine_in n })
