-- The state of the machine.
use Rattle.std.specs.Prelude.{ℕ, ◌+◌, true, false, List, [], ◌∷◌, map, Option, Some, None, sum_by, slice_get}
use Rattle.mp_base.specs.declared.place.Place.{Place}
use Rattle.mp_code.specs.declared.instructions.Instr.{Instr}
use Rattle.mp_code.specs.BlockCode.{BlockCode}
use Rattle.mp_memory.specs.Roots.{Roots}
use Rattle.mp_machine.specs.Blocks.{Path, same_path}
use Rattle.mp_files.specs.TextFiles.{TextFile, bytes_written}
use Rattle.mp_machine.specs.Activations.{Activation}
use Rattle.mp_machine.specs.declared.operands.Operand.{Operand}
use Rattle.mp_machine.specs.declared.objects.Object.{Object}

-- A live activation with the index of its next instruction and its operands, the last one first. What the activation is
-- never changes: its number, which is that of the root of its cells, its block, the number of its static parent, where it
-- was called, and the cells that are counted.
pub record Frame : Type 0 where
  pub activation : Activation
  pub next : ℕ
  pub operands : List Operand

pub record State : Type 0 where
  -- the newest first
  pub frames : List Frame
  -- Activations and objects have their roots from one counter. Root 0 is that of `input` and `output`.
  pub roots : Roots
  pub next_root : ℕ
  -- those that were made, in order of their numbers, from 1; a disposed one has its root no more
  pub objects : List Object
  -- by their numbers; the first two are `input` and `output`
  pub files : List TextFile
  -- bytes written to all files
  pub written : ℕ
  -- the blocks that a procedural value was made of, in order of the numbers that they have in cells, from 0
  pub blocks : List Path
  -- the place of the instruction that the newest activation executed last, or of its first where it has executed none
  pub at : ℕ

-- ---- loaded code

pub record Loaded : Type 0 where
  pub path : Path
  pub code : BlockCode

abbrev pub Codes : Type 0
Codes = List Loaded

abbrev pub code_of : Codes → Path → Option BlockCode
code_of [] path = None
code_of (l ∷ more) path = elim (same_path l.path path) as (λ is. Option BlockCode) [
  | true ↦ Some l.code
  | false ↦
      code_of more path
]

-- the place of the first instruction
abbrev pub ordinal_of : Option Instr → ℕ
ordinal_of None = 0
ordinal_of (Some i) = i.ordinal

abbrev pub first_ordinal : BlockCode → ℕ
first_ordinal code = ordinal_of (slice_get code.instructions 0)

-- ---- what can be seen of it from outside

abbrev pub activations_in : List Frame → List Activation
activations_in frames = map (λ f. f.activation) frames

abbrev pub newest_path : List Frame → Path
newest_path [] = []
newest_path (f ∷ older) = f.activation.block

abbrev pub place_of : State → Place
place_of s = record { path = newest_path s.frames; ordinal = s.at }

abbrev pub written_in : Option TextFile → List ℕ
written_in None = []
written_in (Some f) = bytes_written f

-- the bytes written to `output`
abbrev pub output_of : State → List ℕ
output_of s = written_in (slice_get s.files 1)

-- ---- live cells: those of the live activations, and of the objects that are not disposed

abbrev pub cells_while : {A : Type 0} → Option A → ℕ → ℕ
cells_while None n = 0
cells_while (Some x) n = n

abbrev pub object_cells : Roots → List Object → ℕ
object_cells roots objects = sum_by (λ o. cells_while (roots o.root) o.cells) objects

abbrev pub live_cells : State → ℕ
live_cells s = sum_by (λ f. f.activation.cells) s.frames + object_cells s.roots s.objects
