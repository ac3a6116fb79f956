-- What a row of the table comes to.
use Rattle.std.specs.Prelude.{ℕ, Bool, true, false, Option, Some, None}
use Rattle.mp_machine.specs.Blocks.{Path}
use Rattle.mp_machine.specs.States.{State}

-- A fault or limit stands at the place of the state that it has.
pub data Outcome (A : Type 0) : Type 0 where
  Done : A → State → Outcome A
  Fault : (number : ℕ) → State → Outcome A
  Limit : (number : ℕ) → State → Outcome A
  -- the called block has no code
  Missing : Path → Outcome A
  -- the block of the program has returned
  Ended : State → Outcome A
  -- there is no such operand, or no instruction
  Lacking : Outcome A
  -- an operand is of another kind, or what it stands for is not there
  Stuck : Outcome A

abbrev pub Action : Type 0 → Type 0
Action A = State → Outcome A

abbrev pub Row : Type 0
Row = Action (Unit {0})

abbrev pub bind : {A B : Type 0} → Outcome A → (A → State → Outcome B) → Outcome B
bind (Done x s) go = go x s
bind (Fault n s) go = Fault n s
bind (Limit n s) go = Limit n s
bind (Missing path) go = Missing path
bind (Ended s) go = Ended s
bind Lacking go = Lacking
bind Stuck go = Stuck

infixl 1 ◌>>=◌
abbrev pub ◌>>=◌ : {A B : Type 0} → Action A → (A → Action B) → Action B
(first >>= go) s = bind (first s) go

infixl 1 ◌>>◌
abbrev pub ◌>>◌ : {A B : Type 0} → Action A → Action B → Action B
(first >> then) s = bind (first s) (λ x s. then s)

abbrev pub gives : {A : Type 0} → A → Action A
gives x s = Done x s

abbrev pub skip : Row
skip s = Done tt s

-- the state as it is
abbrev pub now : Action State
now s = Done s s

abbrev pub update : (State → State) → Row
update change s = Done tt (change s)

abbrev pub fault : {A : Type 0} → ℕ → Action A
fault number s = Fault number s

abbrev pub limit : {A : Type 0} → ℕ → Action A
limit number s = Limit number s

abbrev pub missing : {A : Type 0} → Path → Action A
missing path s = Missing path

abbrev pub ended : {A : Type 0} → Action A
ended s = Ended s

abbrev pub stuck : {A : Type 0} → Action A
stuck s = Stuck

-- what is there, or else it is stuck
abbrev pub needs : {A : Type 0} → Option A → Action A
needs None s = Stuck
needs (Some x) s = Done x s

abbrev pub choose : {A : Type 0} → Bool → Action A → Action A → Action A
choose true then_part else_part s = then_part s
choose false then_part else_part s = else_part s

-- the row, unless the test holds
abbrev pub unless : Bool → Row → Row
unless true row s = Done tt s
unless false row s = row s
