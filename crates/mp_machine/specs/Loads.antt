-- The loaded blocks by their places. No promise of the machine to its users cites this but the view that it is seen through.
use Rattle.std.specs.Prelude.{◌≡◌, ℕ, [], Option, Some, None, slice_get}
use Rattle.std.specs.Arc.{arc_value}
use Rattle.mp_code.specs.BlockCode.{BlockCode}
use Rattle.mp_machine.specs.declared.codes.LoadedBlock.{LoadedBlock}
use Rattle.mp_machine.specs.Blocks.{Path}
use Rattle.mp_machine.specs.States.{Codes, Loaded, code_of}

abbrev pub loaded_by : LoadedBlock → Loaded
loaded_by block = record { path = block.path; code = arc_value block.code }

abbrev pub path_in : Option Loaded → Path
path_in None = []
path_in (Some l) = l.path

-- the path of the block at each place
abbrev pub paths_of : Codes → ℕ → Path
paths_of codes place = path_in (slice_get codes place)

-- each block is found by its path: there is no other of the same path before it
pub record AllFound (codes : Codes) : Type 0 where
  pub each : (place : ℕ) (l : Loaded) → slice_get codes place ≡ Some l → code_of codes l.path ≡ Some l.code

-- a block stands at this place, and is found by its path
pub record IsFound (codes : Codes) (path : Path) (place : ℕ) : Type 0 where
  pub code : BlockCode
  pub stands : slice_get codes place ≡ Some (record { path = path; code = code })
  pub counts : code_of codes path ≡ Some code
