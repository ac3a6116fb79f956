-- What a machine answers, from its step.
use Rattle.std.proofs.Common.{◌≡◌, ℕ, Bool, true, false, ◌||◌, Option, Some, None, refl, sym, ◌∙◌, ap, subst}
use Rattle.std.specs.Prelude.{Ok}
use Rattle.mp_base.specs.declared.place.Place.{Place}
use Rattle.mp_code.specs.declared.instructions.Instr.{Instr}
use Rattle.mp_code.specs.declared.instructions.Operation.{Operation}
use Rattle.mp_code.specs.declared.instructions.Operation.TheVariants as operation
use Rattle.mp_machine.specs.Plays.{wants_memory}
use Rattle.mp_machine.specs.declared.answers.Gone.{Gone}
use Rattle.mp_machine.specs.declared.answers.Gone.TheVariants as gone
use Rattle.mp_machine.specs.declared.machine.Over.{Over}
use Rattle.mp_machine.specs.declared.machine.Over.TheVariants as over
use Rattle.mp_machine.specs.declared.processor.Processor.{Processor}
use Rattle.mp_machine.specs.Answering.{IsAnswer, Played, Stopped}
use Rattle.mp_machine.specs.Blocks.{Path}
use Rattle.mp_machine.specs.Conditions.{IsStep, is_stop, is_stopped, may_want, wants}
use Rattle.mp_machine.specs.Loads.{paths_of}
use Rattle.mp_machine.specs.Machines.{LoadedMachine, answer_if, answer_of, machine_in, machine_seen, state_in}
use Rattle.mp_machine.specs.Outcomes.{Outcome, Done, Fault, Limit, Missing, Ended}
use Rattle.mp_machine.specs.Shown.{state_of}
use Rattle.mp_machine.specs.States.{Codes, State, place_of}
use Rattle.mp_machine.specs.Steps.{Machine, answer, answered, goes_on, is_start, next_instruction, starts, step, went}

-- ---- the step of the table

abbrev going : State → Machine
going s = record { state = s; over = None }

module _ (codes : Codes) (s t : State) where
  by_outcome : (out : Outcome (Unit {0})) → step codes s ≡ out → answer codes (going s) ≡ answered (starts (next_instruction codes s)) s out
  by_outcome out e = ap (λ out. answered (starts (next_instruction codes s)) s out) e

  went_on : (b : Bool) → step codes s ≡ Done tt t → starts (next_instruction codes s) ≡ b → answer codes (going s) ≡ goes_on (went b t) t
  went_on b e f = by_outcome (Done tt t) e ∙ ap (λ b. goes_on (went b t) t) f

  no_block : (path : Path) → step codes s ≡ Missing path → t ≡ s → answer codes (going s) ≡ goes_on (gone.Missing path) t
  no_block path e same = by_outcome (Missing path) e ∙ ap (goes_on (gone.Missing path)) (sym same)

-- ---- an answer that is kept

kept_step : (m n : LoadedMachine) (due g : Gone) →
    answer m.codes (machine_in m) ≡ Some (record { answer = due; machine = record { state = state_in n; over = Some due } }) →
    due ≡ g → n.over ≡ Some g → answer m.codes (machine_in m) ≡ Some (record { answer = g; machine = machine_in n })
kept_step m n due g e same kept =
    e ∙ ap (λ g. Some (record { answer = g; machine = record { state = state_in n; over = Some g } })) same
    ∙ ap (λ o. Some (record { answer = g; machine = record { state = state_in n; over = o } })) (sym kept)

pub stopped_step : (m n : LoadedMachine) (due g : Gone) →
    answer m.codes (machine_in m) ≡ Some (record { answer = due; machine = record { state = state_in n; over = Some due } }) →
    (is_stop due ≡ true → may_want m ≡ true) → Stopped due g n.over → IsStep m g n
stopped_step m n due gone.Memory e want h = (want h.0, h.1)
stopped_step m n due gone.Went e want h = kept_step m n due gone.Went e h.0 h.1
stopped_step m n due gone.Ended e want h = kept_step m n due gone.Ended e h.0 h.1
stopped_step m n due (gone.AtStatement place) e want h = kept_step m n due (gone.AtStatement place) e h.0 h.1
stopped_step m n due (gone.Missing path) e want h = kept_step m n due (gone.Missing path) e h.0 h.1
stopped_step m n due (gone.Fault number place) e want h = kept_step m n due (gone.Fault number place) e h.0 h.1
stopped_step m n due (gone.Limit which place) e want h = kept_step m n due (gone.Limit which place) e h.0 h.1

or_right : (a : Bool) → (a || true) ≡ true
or_right true = refl
or_right false = refl

or_left : (b : Bool) → (true || b) ≡ true
or_left b = refl

-- ---- a machine that goes on

module _ (codes : Codes) (m n : Processor) (o : Option Over) (onward : o ≡ None) where
  is_going : machine_in (machine_seen codes m o) ≡ going (state_of (paths_of codes) m)
  is_going = ap (λ o. record { state = state_of (paths_of codes) m; over = answer_if (state_of (paths_of codes) m) o }) onward

  want_is : may_want (machine_seen codes m o) ≡ (wants (next_instruction codes (state_of (paths_of codes) m)) ||
      is_stopped (step codes (state_of (paths_of codes) m)))
  want_is = ap (λ o. may_want (machine_seen codes m o)) onward

  pub wanted : wants (next_instruction codes (state_of (paths_of codes) m)) ≡ true → may_want (machine_seen codes m o) ≡ true
  wanted e = want_is ∙ ap (λ b. b || is_stopped (step codes (state_of (paths_of codes) m))) e

  stop_wanted : (out : Outcome (Unit {0})) → step codes (state_of (paths_of codes) m) ≡ out → is_stopped out ≡ true →
      may_want (machine_seen codes m o) ≡ true
  stop_wanted out e stops = want_is
      ∙ ap (λ b. wants (next_instruction codes (state_of (paths_of codes) m)) || b) (ap is_stopped e ∙ stops)
      ∙ or_right (wants (next_instruction codes (state_of (paths_of codes) m)))

  pub step_went : step codes (state_of (paths_of codes) m) ≡ Done tt (state_of (paths_of codes) n) →
      starts (next_instruction codes (state_of (paths_of codes) m)) ≡ false →
      IsStep (machine_seen codes m o) gone.Went (machine_seen codes n o)
  step_went e f = ap (answer codes) is_going ∙ went_on codes (state_of (paths_of codes) m) (state_of (paths_of codes) n) false e f
      ∙ ap (λ (m : Machine). Some (record { answer = gone.Went; machine = m }))
      (ap (λ o. record { state = state_of (paths_of codes) n; over = answer_if (state_of (paths_of codes) n) o }) (sym onward))

  pub step_starts : step codes (state_of (paths_of codes) m) ≡ Done tt (state_of (paths_of codes) n) →
      starts (next_instruction codes (state_of (paths_of codes) m)) ≡ true → (place : Place) → place ≡ place_of (state_of (paths_of codes) n) →
      IsStep (machine_seen codes m o) (gone.AtStatement place) (machine_seen codes n o)
  step_starts e f place at = ap (answer codes) is_going ∙ went_on codes (state_of (paths_of codes) m) (state_of (paths_of codes) n) true e f
      ∙ ap (λ place. Some (record { answer = gone.AtStatement place; machine = going (state_of (paths_of codes) n) })) (sym at)
      ∙ ap (λ (m : Machine). Some (record { answer = gone.AtStatement place; machine = m }))
      (ap (λ o. record { state = state_of (paths_of codes) n; over = answer_if (state_of (paths_of codes) n) o }) (sym onward))

  pub step_missing : (path : Path) → step codes (state_of (paths_of codes) m) ≡ Missing path →
      state_of (paths_of codes) n ≡ state_of (paths_of codes) m →
      IsStep (machine_seen codes m o) (gone.Missing path) (machine_seen codes n o)
  step_missing path e same = ap (answer codes) is_going ∙ no_block codes (state_of (paths_of codes) m) (state_of (paths_of codes) n) path e same
      ∙ ap (λ (m : Machine). Some (record { answer = gone.Missing path; machine = m }))
      (ap (λ o. record { state = state_of (paths_of codes) n; over = answer_if (state_of (paths_of codes) n) o }) (sym onward))

  pub step_fault : (number : ℕ) (g : Gone) (new : Option Over) → step codes (state_of (paths_of codes) m) ≡ Fault number (state_of (paths_of codes) n) →
      Stopped (answer_of (state_of (paths_of codes) n) (over.Fault number)) g (answer_if (state_of (paths_of codes) n) new) →
      IsStep (machine_seen codes m o) g (machine_seen codes n new)
  step_fault number g new e h =
      stopped_step (machine_seen codes m o) (machine_seen codes n new) (gone.Fault number (place_of (state_of (paths_of codes) n))) g
      (ap (answer codes) is_going ∙ by_outcome codes (state_of (paths_of codes) m) (state_of (paths_of codes) n) (Fault number (state_of (paths_of codes) n)) e)
      (λ is. stop_wanted (Fault number (state_of (paths_of codes) n)) e refl) h

  pub step_limit : (which : ℕ) (g : Gone) (new : Option Over) → step codes (state_of (paths_of codes) m) ≡ Limit which (state_of (paths_of codes) n) →
      Stopped (answer_of (state_of (paths_of codes) n) (over.Limit which)) g (answer_if (state_of (paths_of codes) n) new) →
      IsStep (machine_seen codes m o) g (machine_seen codes n new)
  step_limit which g new e h =
      stopped_step (machine_seen codes m o) (machine_seen codes n new) (gone.Limit which (place_of (state_of (paths_of codes) n))) g
      (ap (answer codes) is_going ∙ by_outcome codes (state_of (paths_of codes) m) (state_of (paths_of codes) n) (Limit which (state_of (paths_of codes) n)) e)
      (λ is. stop_wanted (Limit which (state_of (paths_of codes) n)) e refl) h

  pub step_ended : (g : Gone) (new : Option Over) → step codes (state_of (paths_of codes) m) ≡ Ended (state_of (paths_of codes) n) →
      Stopped (answer_of (state_of (paths_of codes) n) over.Ended) g (answer_if (state_of (paths_of codes) n) new) →
      IsStep (machine_seen codes m o) g (machine_seen codes n new)
  step_ended g new e h =
      stopped_step (machine_seen codes m o) (machine_seen codes n new) gone.Ended g
      (ap (answer codes) is_going ∙ by_outcome codes (state_of (paths_of codes) m) (state_of (paths_of codes) n) (Ended (state_of (paths_of codes) n)) e)
      (λ is. absurd (let v : ⊥ = cc in v)) h

-- a statement is an instruction that may want memory
pub start_wants : (codes : Codes) (s : State) → starts (next_instruction codes s) ≡ true → wants (next_instruction codes s) ≡ true
start_wants codes s e = by_next (next_instruction codes s) e
  where
    by_operation : (o : Operation) → is_start o ≡ true → wants_memory o ≡ true
    by_operation operation.Stmt e = refl
    by_operation _ e = absurd (let v : ⊥ = cc in v)

    by_next : (i : Option Instr) → starts i ≡ true → wants i ≡ true
    by_next None e = absurd (let v : ⊥ = cc in v)
    by_next (Some i) e = by_operation i.operation e

-- ---- a machine that goes on no more

pub step_again : (codes : Codes) (m : Processor) (o new : Option Over) (why : Over) (g : Gone) → o ≡ Some why →
    Stopped (answer_of (state_of (paths_of codes) m) why) g (answer_if (state_of (paths_of codes) m) new) →
    IsStep (machine_seen codes m o) g (machine_seen codes m new)
step_again codes m o new why g e h =
    let s : State = state_of (paths_of codes) m in
    let due : Gone = answer_of s why in
    stopped_step (machine_seen codes m o) (machine_seen codes m new) due g
    (ap (λ o. answer codes (machine_in (machine_seen codes m o))) e)
    (λ is. ap (λ o. may_want (machine_seen codes m o)) e ∙ is) h
