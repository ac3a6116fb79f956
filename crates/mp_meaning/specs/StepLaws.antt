-- Laws of steps and stops: where a run is at each step, and the first step at which a command has to stop.
use Rattle.std.specs.Prelude.{◌≡◌, ◌⊎◌, ◌<◌, ◌≤◌, ℕ, ◌+◌, Bool, true, false, List}
use Rattle.mp_base.specs.declared.place.Place.{Place}
use Rattle.mp_meaning.specs.Programs.{Program}
use Rattle.mp_meaning.specs.Configurations.{place_of}
use Rattle.mp_meaning.specs.Steps.{Standing, NotBegun, Stands, Ends, Nowhere, at_step, Stop, Stopped, Budget, AtEnd, NoStop, stop}

-- ---- the first step at which a run has to stop

-- a run goes on past a step where it stands at a statement that is no break
abbrev pub GoesPast : (is_break : Place → Bool) → Standing → Type 0
GoesPast is_break (Stands c) = is_break (place_of c) ≡ false
GoesPast is_break (Ends ending steps output) = ⊥
GoesPast is_break NotBegun = ⊥
GoesPast is_break Nowhere = ⊥

-- The stop at a step, which is at most the last one allowed: the ending; or the statement, on a break line or at the last
-- step. What no accepted program has is no stop.
abbrev pub IsStopAt : (is_break : Place → Bool) → (step last : ℕ) → Standing → Stop → Type 0
IsStopAt is_break step last (Ends ending steps output) s = s ≡ AtEnd ending steps output
IsStopAt is_break step last (Stands c) s =
    ((is_break (place_of c) ≡ true) × (s ≡ Stopped step c)) ⊎
    ((is_break (place_of c) ≡ false) × (step ≡ last) × (s ≡ Budget step c))
IsStopAt is_break step last NotBegun s = ⊥
IsStopAt is_break step last Nowhere s = s ≡ NoStop

-- It is the stop at a step past p, up to p + b, and at no step before that has the run to stop.
pub record StopsFirst (program : Program) (input : List ℕ) (is_break : Place → Bool) (p b : ℕ) (s : Stop) : Type 0 where
  pub step : ℕ
  pub past : p < step
  pub within : step ≤ p + b
  pub least : (r : ℕ) → p < r → r < step → GoesPast is_break (at_step program input r)
  pub is : IsStopAt is_break step (p + b) (at_step program input step) s

-- So it is with `stop`,
abbrev pub StopIsFirst : Type 0
StopIsFirst = (program : Program) (input : List ℕ) (is_break : Place → Bool) (p b : ℕ) → 0 < b →
    StopsFirst program input is_break p b (stop program input is_break p b)

-- and with nothing else.
abbrev pub NoOtherStop : Type 0
NoOtherStop =
    (program : Program) (input : List ℕ) (is_break : Place → Bool) (p b : ℕ) (s : Stop) → 0 < b →
    StopsFirst program input is_break p b s → s ≡ stop program input is_break p b
