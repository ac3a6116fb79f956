-- Cells under references: a root that was dropped is that of a disposed object, which is fault 8.
use Rattle.std.specs.Prelude.{ℕ, zero, suc, ◌+◌, List, [], ◌∷◌, Option, Some, None, replicate, nat_lt, slice_get}
use Rattle.mp_memory.specs.declared.cells.Cell.{Cell}
use Rattle.mp_memory.specs.declared.cells.Cell.TheVariants as cell
use Rattle.mp_memory.specs.Roots.{Found, Got, Dropped, Outside, cell_at, cells_at, with_cells, with_root}
use Rattle.mp_machine.specs.declared.objects.Object.{Object}
use Rattle.mp_machine.specs.Activations.{holder}
use Rattle.mp_machine.specs.States.{State, activations_in}
use Rattle.mp_machine.specs.Outcomes.{Action, Row, ◌>>=◌, ◌>>◌, gives, skip, now, update, fault, stuck, needs, choose}
use Rattle.mp_machine.specs.declared.addresses.Address.{Address}

abbrev pub what_is : {A : Type 0} → Found A → Action A
what_is (Got x) = gives x
what_is Dropped = fault 8
what_is Outside = stuck

-- ---- reading

abbrev pub cell_of : Address → Action Cell
cell_of a = do
  s ← now
  what_is (cell_at (s.roots a.root) a.offset)

abbrev pub cells_of : Address → (count : ℕ) → Action (List Cell)
cells_of a n = do
  s ← now
  what_is (cells_at (s.roots a.root) a.offset n)

-- an undefined cell that is read is fault 9
abbrev pub defined : Cell → Action Cell
defined cell.Undef = fault 9
defined x = gives x

-- ---- writing

abbrev pub with_root_cells : ℕ → List Cell → State → State
with_root_cells root cells s = record s { roots = with_root s.roots root (Some cells) }

-- the cells from there become these
abbrev pub set_cells : Address → List Cell → Row
set_cells a new = do
  s ← now
  cells ← what_is (with_cells (s.roots a.root) a.offset new)
  update (with_root_cells a.root cells)

abbrev pub set_cell : Address → Cell → Row
set_cell a x = set_cells a (x ∷ [])

abbrev pub undefined_cells : ℕ → List Cell
undefined_cells n = replicate n cell.Undef

-- so many cells further
abbrev pub beyond : Address → ℕ → Address
beyond a n = record a { offset = a.offset + n }

-- an offset has 32 bits
abbrev pub offset_limit : ℕ
offset_limit = 4294967296

abbrev pub nothing_there : Option (List Cell) → Found Address
nothing_there None = Dropped
nothing_there (Some cells) = Outside

-- the place so many cells further, where a cell may stand
abbrev pub reach : Address → ℕ → Action Address
reach a n = do
  s ← now
  choose (nat_lt (a.offset + n) offset_limit) (gives (beyond a n)) (what_is (nothing_there (s.roots a.root)))

-- ---- static parents: the activation of the depth around the newest

abbrev pub activation_at : (depth : ℕ) → Action ℕ
activation_at d = do
  s ← now
  needs (holder (activations_in s.frames) d)

-- ---- objects: nil is fault 7, a disposed object fault 8

abbrev pub must_be_there : Option (List Cell) → Row
must_be_there None = fault 8
must_be_there (Some cells) = skip

abbrev pub object_at : ℕ → Action Object
object_at zero = fault 7
object_at (suc k) = do
  s ← now
  o ← needs (slice_get s.objects k)
  must_be_there (s.roots o.root)
  gives o
