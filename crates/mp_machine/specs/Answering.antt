-- How the parts of a step answer; only private functions cite this.
use Rattle.std.specs.Prelude.{◌≡◌, Bool, true, Option, Some, None, Result, Ok, Err}
use Rattle.mp_base.specs.declared.place.Place.{Place}
use Rattle.mp_machine.specs.declared.answers.Gone.{Gone}
use Rattle.mp_machine.specs.declared.answers.Gone.TheVariants as gone
use Rattle.mp_machine.specs.declared.machine.Over.{Over}
use Rattle.mp_machine.specs.declared.machine.Over.TheVariants as over
use Rattle.mp_machine.specs.declared.processor.Stop.{Stop}
use Rattle.mp_machine.specs.declared.processor.Stop.TheVariants as stop
use Rattle.mp_machine.specs.Conditions.{IsAnswered, is_stop, wants}
use Rattle.mp_machine.specs.Outcomes.{Done, Fault, Limit, Missing, Ended}
use Rattle.mp_machine.specs.States.{Codes, State}
use Rattle.mp_machine.specs.Steps.{next_instruction, starts, step}

-- An instruction was played: the step's outcome, and whether a statement starts. All is as before where a block is missing,
-- and want of memory comes only from instructions that may want it.
abbrev pub Played : Codes → State → Result Bool Stop → State → Type 0
Played codes s (Ok b) t = (step codes s ≡ Done tt t) × (starts (next_instruction codes s) ≡ b)
Played codes s (Err (stop.Fault number)) t = step codes s ≡ Fault number t
Played codes s (Err (stop.Limit which)) t = step codes s ≡ Limit which t
Played codes s (Err stop.Ended) t = step codes s ≡ Ended t
Played codes s (Err (stop.Missing path)) t = (step codes s ≡ Missing path) × (t ≡ s)
Played codes s (Err stop.Stuck) t = IsAnswered (step codes s) → ⊥
Played codes s (Err stop.Memory) t = wants (next_instruction codes s) ≡ true

-- the answer that is due, or want of memory for its place
abbrev pub IsAnswer : Gone → Gone → Type 0
IsAnswer due gone.Memory = is_stop due ≡ true
IsAnswer due gone.Went = due ≡ gone.Went
IsAnswer due gone.Ended = due ≡ gone.Ended
IsAnswer due (gone.AtStatement place) = due ≡ gone.AtStatement place
IsAnswer due (gone.Missing path) = due ≡ gone.Missing path
IsAnswer due (gone.Fault number place) = due ≡ gone.Fault number place
IsAnswer due (gone.Limit which place) = due ≡ gone.Limit which place

-- why a machine goes on no more, where this is its answer
abbrev pub kept_answer : Gone → Over → Over
kept_answer gone.Memory why = over.Memory
kept_answer _ why = why

-- the answer that is due, or want of memory for its place; it is kept
abbrev pub Stopped : Gone → Gone → Option Gone → Type 0
Stopped due answer kept = IsAnswer due answer × (kept ≡ Some answer)

-- a statement starts at the place, or memory is wanting to say so, for ever
abbrev pub Started : Place → Option Over → Gone → Option Over → Type 0
Started place old (gone.AtStatement p) new = (p ≡ place) × (new ≡ old)
Started place old gone.Memory new = new ≡ Some over.Memory
Started place old _ new = ⊥
