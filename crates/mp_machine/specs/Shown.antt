-- The state of the table that a processor's vectors stand for, and what it is to agree with a row of the table. No promise
-- of the machine to its users cites this but the view that it is seen through.
use Rattle.std.specs.Prelude.{◌≡◌, ℕ, ◌+◌, ◌≤◌, ◌<◌, List, [], ◌∷◌, ◌++◌, map, reverse, take, drop, Ok, Err}
use Rattle.std.specs.Prelude.{Result, is_some, nat_eq, Bool, sum_by, vec_len, vec_capacity}
use Rattle.std.specs.List.{list_any}
use Rattle.mp_base.specs.declared.limits.TheConstants.{CELL_LIMIT}
use Rattle.mp_code.specs.declared.check.TheConstants.{OPERAND_LIMIT}
use Rattle.mp_memory.specs.declared.cells.Cell.{Cell}
use Rattle.mp_memory.specs.Roots.{Contents, roots_of}
use Rattle.mp_files.specs.RunFiles.{RunFiles}
use Rattle.mp_machine.specs.declared.objects.Object.{Object}
use Rattle.mp_machine.specs.declared.operands.Operand.{Operand}
use Rattle.mp_machine.specs.declared.activations.Activation.{Activation}
use Rattle.mp_machine.specs.declared.processor.Processor.{Processor}
use Rattle.mp_machine.specs.declared.processor.Stop.{Stop}
use Rattle.mp_machine.specs.declared.processor.Stop.TheVariants as stop
use Rattle.mp_machine.specs.Activations.{Activation as Live}
use Rattle.mp_machine.specs.Blocks.{Path}
use Rattle.mp_machine.specs.Operands.{cells_in, put_cell}
use Rattle.mp_machine.specs.Memory.{cell_of, defined}
use Rattle.mp_machine.specs.CallRows.{leave_newest}
use Rattle.mp_machine.specs.States.{Frame, State}
use Rattle.mp_machine.specs.Outcomes.{Outcome, Done, Fault, Limit, Missing, Ended, Lacking, Stuck, Row, ◌>>=◌, ◌>>◌}

-- what the operands, activations and cells do not hold: the paths of the loaded blocks, and what most rows do not change
pub record World : Type 0 where
  pub paths : ℕ → Path
  pub objects : List Object
  pub files : RunFiles
  pub blocks : List Path

abbrev pub activation_seen : (ℕ → Path) → Activation → Live
activation_seen paths a = record { number = a.number; block = paths a.block; parent = a.parent; from = a.from; cells = a.cells }

abbrev pub activations_seen : (ℕ → Path) → List Activation → List Live
activations_seen paths all = map (activation_seen paths) all

abbrev pub frame_seen : (ℕ → Path) → Activation → (own : List Operand) → Frame
frame_seen paths a own = record {
  activation = activation_seen paths a;
  next = a.next;
  operands = own;
}

-- the own operands of an activation, the last one first
abbrev pub own_operands : (below : ℕ) → List Operand → List Operand
own_operands n xs = reverse (drop n xs)

-- the newest first; each activation has its own operands above those of the older ones
abbrev pub frames_seen : (ℕ → Path) → List Activation → List Operand → List Frame
frames_seen paths [] xs = []
frames_seen paths (a ∷ older) xs = frame_seen paths a (own_operands a.below xs) ∷ frames_seen paths older (take a.below xs)

-- what the parts of a processor stand for
abbrev pub shown : World → Contents → List Operand → Activation → List Activation → (at : ℕ) → State
shown w k xs a older at = record {
  frames = frames_seen w.paths (a ∷ reverse older) xs;
  roots = roots_of k;
  next_root = k.next;
  objects = w.objects;
  files = w.files.files;
  written = w.files.written;
  blocks = w.blocks;
  at = at;
}

abbrev pub world_of : (ℕ → Path) → Processor → World
world_of paths m = record { paths = paths; objects = m.objects.items; files = m.files; blocks = m.blocks.items }

abbrev pub state_of : (ℕ → Path) → Processor → State
state_of paths m = shown (world_of paths m) m.store m.operands.items m.newest m.older.items m.at

-- the cells of these operands, those of the first one first
abbrev pub all_cells : List Operand → List Cell
all_cells [] = []
all_cells (x ∷ more) = cells_in x ++ all_cells more

-- ---- agreement with the table

-- the conditions of the table are not met
abbrev pub IsStuck : {A : Type 0} → Outcome A → Type 0
IsStuck Lacking = Unit {0}
IsStuck Stuck = Unit {0}
IsStuck _ = ⊥

-- the row stops for this reason, in this state
abbrev pub Stops : {A : Type 0} → Stop → Outcome A → State → Type 0
Stops (stop.Fault n) o t = o ≡ Fault n t
Stops (stop.Limit n) o t = o ≡ Limit n t
Stops stop.Ended o t = o ≡ Ended t
Stops (stop.Missing path) o t = o ≡ Missing path
Stops stop.Stuck o t = IsStuck o
Stops stop.Memory o t = Unit {0}

-- the same answer, and exactly the state after it
abbrev pub Agrees : {A : Type 0} → Outcome A → Result A Stop → State → Type 0
Agrees o (Ok x) t = o ≡ Done x t
Agrees o (Err e) t = Stops e o t

-- there is room for so many operands more
pub record Fits (count : ℕ) (m : Processor) : Type 0 where
  pub own : m.newest.below ≤ vec_len m.operands
  pub spare : vec_len m.operands + count ≤ vec_capacity m.operands

-- no activation began or ended, no object was made or disposed of
pub record Unmoved (old new : Processor) : Type 0 where
  pub number : new.newest.number ≡ old.newest.number
  pub below : new.newest.below ≡ old.newest.below
  pub own : old.newest.below ≤ vec_len old.operands → new.newest.below ≤ vec_len new.operands
  pub spare : (n : ℕ) → n ≤ vec_capacity old.operands → n ≤ vec_capacity new.operands
  pub used : new.used ≡ old.used
  pub block : new.newest.block ≡ old.newest.block
  pub cells : new.newest.cells ≡ old.newest.cells
  pub older : new.older.items ≡ old.older.items
  pub objects : new.objects.items ≡ old.objects.items
  pub next : new.store.next ≡ old.store.next
  pub live : (q : ℕ) → is_some (roots_of new.store q) ≡ is_some (roots_of old.store q)

-- memory was not wanting
abbrev pub NoMemory : {A : Type 0} → Result A Stop → Type 0
NoMemory (Ok x) = Unit {0}
NoMemory (Err (stop.Fault n)) = Unit {0}
NoMemory (Err (stop.Limit n)) = Unit {0}
NoMemory (Err stop.Ended) = Unit {0}
NoMemory (Err (stop.Missing path)) = Unit {0}
NoMemory (Err stop.Stuck) = Unit {0}
NoMemory (Err stop.Memory) = ⊥

-- each activation's own operands begin where those of the next older one end, or above
abbrev pub AreStacked : (bound : ℕ) → List Activation → Type 0
AreStacked n [] = Unit {0}
AreStacked n (a ∷ older) = (a.below ≤ n) × AreStacked a.below older

-- what a processor keeps at hand is right
pub record Sound (m : Processor) : Type 0 where
  pub own : m.newest.below ≤ vec_len m.operands
  pub stacked : AreStacked m.newest.below (reverse m.older.items)
  pub counts : m.used ≡ sum_by (λ a. a.cells) (m.newest ∷ reverse m.older.items)
  pub bound : m.used ≤ CELL_LIMIT
  -- the newest activation may have as many operands as code may have
  pub room : m.newest.below + OPERAND_LIMIT ≤ vec_capacity m.operands

-- the newest activation ends with the cell of its root as the result
abbrev pub returned_with : (number offset : ℕ) → Row
returned_with number o = do
  x ← cell_of (record { root = number; offset = o })
  leave_newest
  y ← defined x
  put_cell y

-- the block of the path is missing, or memory is wanting to say so
abbrev pub IsMissing : Path → Stop → Type 0
IsMissing path (stop.Missing p) = p ≡ path
IsMissing path stop.Memory = Unit {0}
IsMissing path (stop.Fault n) = ⊥
IsMissing path (stop.Limit n) = ⊥
IsMissing path stop.Ended = ⊥
IsMissing path stop.Stuck = ⊥

-- where a block is missing, this holds
abbrev pub WhereMissing : {A : Type 0} → Result A Stop → Type 0 → Type 0
WhereMissing (Err (stop.Missing path)) P = P
WhereMissing (Ok x) P = Unit {0}
WhereMissing (Err (stop.Fault n)) P = Unit {0}
WhereMissing (Err (stop.Limit n)) P = Unit {0}
WhereMissing (Err stop.Ended) P = Unit {0}
WhereMissing (Err stop.Stuck) P = Unit {0}
WhereMissing (Err stop.Memory) P = Unit {0}

-- whether the activation of a number is among these
abbrev pub is_among : (number : ℕ) → List Activation → Bool
is_among number all = list_any (λ a. nat_eq a.number number) all

-- the blocks of these activations stand among so many loaded ones
abbrev pub AreLoaded : ℕ → List Activation → Type 0
AreLoaded n [] = Unit {0}
AreLoaded n (a ∷ older) = (a.block < n) × AreLoaded n older

pub record IsLoaded (count : ℕ) (m : Processor) : Type 0 where
  pub blocks : AreLoaded count (m.newest ∷ reverse m.older.items)
