-- Runs of the machine: with a budget of statements that may still start, and from the start of a program.
use Rattle.std.specs.Prelude.{◌≡◌, ◌⊎◌, ℕ, zero, suc, ◌+◌, Bool, true, false, List, [], ◌∷◌, ◌++◌, Option, Some, None}
use Rattle.mp_code.specs.BlockCode.{BlockCode}
use Rattle.mp_machine.specs.Blocks.{Path}
use Rattle.mp_machine.specs.declared.answers.Gone.{Gone}
use Rattle.mp_machine.specs.declared.answers.Gone.TheVariants as gone
use Rattle.mp_machine.specs.States.{State, Codes, code_of, output_of}
use Rattle.mp_machine.specs.Outcomes.{Outcome, Done, Fault, Limit, Missing, Ended, Lacking, Stuck}
use Rattle.mp_machine.specs.Steps.{Machine, Answered, starts, next_instruction, step, answer, first_state}

-- ---- a budget: each start of a statement takes one

pub record Run : Type 0 where
  pub state : State
  -- how many statements may still start
  pub left : ℕ

-- what is left after a step
abbrev pub spent : (is_start : Bool) → ℕ → Option ℕ
spent false left = Some left
spent true zero = None
spent true (suc left) = Some left

abbrev pub with_left : State → Option ℕ → Option Run
with_left s None = None
with_left s (Some left) = Some (record { state = s; left = left })

abbrev pub moved : Bool → ℕ → Outcome (Unit {0}) → Option Run
moved is_start left (Done x t) = with_left t (spent is_start left)
moved is_start left _ = None

-- what is said of an outcome other than a missing block, and one without code or label, holds with more codes
abbrev pub IsKept : Outcome (Unit {0}) → Outcome (Unit {0}) → Type 0
IsKept (Done x t) o = o ≡ Done x t
IsKept (Fault number t) o = o ≡ Fault number t
IsKept (Limit number t) o = o ≡ Limit number t
IsKept (Ended t) o = o ≡ Ended t
IsKept (Missing path) o = Unit {0}
IsKept Lacking o = Unit {0}
IsKept Stuck o = Unit {0}

-- the run after its next step, where that leads on within the budget
abbrev pub move : Codes → Run → Option Run
move codes r = moved (starts (next_instruction codes r.state)) r.left (step codes r.state)

-- any number of steps
pub data Steps (codes : Codes) : Run → Run → Type 0 where
  Here : (r : Run) → Steps codes r r
  Further : (r s t : Run) → move codes r ≡ Some s → Steps codes s t → Steps codes r t

-- ---- from the start of a program: its run comes to this state after so many starts of statements

pub record Reached (codes : Codes) (main : BlockCode) (input : List ℕ) (starts : ℕ) (s : State) : Type 0 where
  pub by : Steps codes (record { state = first_state main input; left = starts }) (record { state = s; left = 0 })

-- ---- laws

-- The codes of the first are those of the second too.
abbrev pub HoldsCodes : Codes → Codes → Type 0
HoldsCodes codes wider = (path : Path) (code : BlockCode) → code_of codes path ≡ Some code → code_of wider path ≡ Some code

-- What is loaded later changes no step that was made: so a run from the start with all codes is the run that loads them by
-- and by.
abbrev pub LoadingKeepsSteps : Type 0
LoadingKeepsSteps = (codes wider : Codes) → HoldsCodes codes wider → (r t : Run) → Steps codes r t → Steps wider r t

abbrev pub LoadingKeepsEndings : Type 0
LoadingKeepsEndings = (codes wider : Codes) → HoldsCodes codes wider → (s : State) → IsKept (step codes s) (step wider s)

-- A greater budget leaves the more.
abbrev pub with_more : ℕ → Run → Run
with_more n r = record r { left = r.left + n }

abbrev pub BudgetsAdd : Type 0
BudgetsAdd = (codes : Codes) (n : ℕ) (r t : Run) → Steps codes r t → Steps codes (with_more n r) (with_more n t)

-- There is one run: of two runs that begin alike one is the beginning of the other.
abbrev pub RunsAreOne : Type 0
RunsAreOne = (codes : Codes) (r t u : Run) → Steps codes r t → Steps codes r u → Steps codes t u ⊎ Steps codes u t

-- ---- how a run goes, as far as so many steps show it

pub record Report : Type 0 where
  -- the last answer that is not `Went` or `AtStatement`, where there is one
  pub ending : Option Gone
  -- the ordinals of the statements that were started
  pub starts : List ℕ
  pub output : List ℕ

abbrev pub report_of : Option Gone → List ℕ → State → Report
report_of ending starts s = record { ending = ending; starts = starts; output = output_of s }

abbrev pub by_answer : List ℕ → Machine → Gone → (List ℕ → Report) → Report
by_answer starts m gone.Went later = later starts
by_answer starts m (gone.AtStatement place) later = later (starts ++ place.ordinal ∷ [])
by_answer starts m g later = report_of (Some g) starts m.state

abbrev pub by_answered : List ℕ → Machine → Option Answered → (Machine → List ℕ → Report) → Report
by_answered starts m None later = report_of None starts m.state
by_answered starts m (Some a) later = by_answer starts a.machine a.answer (λ starts. later a.machine starts)

abbrev pub watch : Codes → (steps : ℕ) → List ℕ → Machine → Report
watch codes zero starts m = report_of None starts m.state
watch codes (suc n) starts m = by_answered starts m (answer codes m) (λ m starts. watch codes n starts m)
