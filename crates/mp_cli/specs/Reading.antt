-- How the reading of a text ends.
use Rattle.std.specs.Prelude.{◌≡◌, ℕ, ◌<◌, List, Option, Bool, true, false}
use Rattle.std.specs.Io.KnownBytes.{IsAtEnd}
use Rattle.mp_base.specs.declared.limits.TheConstants.{SCRIPT_LIMIT}
use Rattle.mp_cli.specs.declared.reading.Ending.{Ending}
use Rattle.mp_cli.specs.declared.reading.Ending.TheVariants as ending

abbrev pub is_fault : Ending → Bool
is_fault ending.End = false
is_fault ending.Limit = false
is_fault ending.Fault = true
is_fault ending.Memory = false

-- how many bytes were taken, and what is left, where the reading ended so
abbrev pub HasRead : Ending → ℕ → Option (List ℕ) → Type 0
HasRead ending.End count left = (count < SCRIPT_LIMIT) × IsAtEnd left
HasRead ending.Limit count left = count ≡ SCRIPT_LIMIT
HasRead ending.Fault count left = count < SCRIPT_LIMIT
HasRead ending.Memory count left = count < SCRIPT_LIMIT
