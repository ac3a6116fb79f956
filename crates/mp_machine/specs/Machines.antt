-- What a machine is seen as: the codes that are loaded, its state, and its answer for ever where it goes on no more.
use Rattle.std.specs.Prelude.{◌≡◌, ℕ, zero, suc, List, [], ◌∷◌, length, Option, Some, None}
use Rattle.mp_memory.specs.declared.cells.Cell.{Cell}
use Rattle.mp_memory.specs.declared.cells.Cell.TheVariants as cell
use Rattle.mp_memory.specs.Roots.{Contents, Roots, roots_of}
use Rattle.mp_files.specs.RunFiles.{RunFiles}
use Rattle.mp_machine.specs.declared.objects.Object.{Object}
use Rattle.mp_machine.specs.Blocks.{Path}
use Rattle.mp_machine.specs.declared.answers.Gone.{Gone}
use Rattle.mp_machine.specs.declared.answers.Gone.TheVariants as gone
use Rattle.mp_machine.specs.declared.machine.Over.{Over}
use Rattle.mp_machine.specs.declared.machine.Over.TheVariants as over
use Rattle.mp_machine.specs.declared.processor.Processor.{Processor}
use Rattle.mp_machine.specs.Memory.{undefined_cells}
use Rattle.mp_machine.specs.Loads.{AllFound, paths_of}
use Rattle.mp_machine.specs.Shown.{IsLoaded, Sound, state_of}
use Rattle.mp_machine.specs.States.{Codes, Frame, State, place_of}
use Rattle.mp_machine.specs.Steps.{Machine}

pub record LoadedMachine : Type 0 where
  pub codes : Codes
  -- the parts of its state
  pub frames : List Frame
  pub store : Contents
  pub objects : List Object
  pub files : RunFiles
  pub blocks : List Path
  pub at : ℕ
  pub over : Option Gone

abbrev pub state_in : LoadedMachine → State
state_in m = record {
  frames = m.frames;
  roots = roots_of m.store;
  next_root = m.store.next;
  objects = m.objects;
  files = m.files.files;
  written = m.files.written;
  blocks = m.blocks;
  at = m.at;
}

abbrev pub machine_in : LoadedMachine → Machine
machine_in m = record { state = state_in m; over = m.over }

-- it stopped where it is
abbrev pub answer_of : State → Over → Gone
answer_of s over.Ended = gone.Ended
answer_of s (over.Fault number) = gone.Fault number (place_of s)
answer_of s (over.Limit which) = gone.Limit which (place_of s)
answer_of s over.Memory = gone.Memory

abbrev pub answer_if : State → Option Over → Option Gone
answer_if s None = None
answer_if s (Some o) = Some (answer_of s o)

abbrev pub machine_seen : Codes → Processor → Option Over → LoadedMachine
machine_seen codes m o = record {
  codes = codes;
  frames = (state_of (paths_of codes) m).frames;
  store = m.store;
  objects = m.objects.items;
  files = m.files;
  blocks = m.blocks.items;
  at = m.at;
  over = answer_if (state_of (paths_of codes) m) o;
}

-- The blocks of all live activations are loaded, each block once; and while the run goes on, what the processor keeps at hand is right.
pub record IsInside (codes : Codes) (m : Processor) (o : Option Over) : Type 0 where
  pub loaded : IsLoaded (length codes) m
  pub found : AllFound codes
  pub sound : o ≡ None → Sound m

-- the roots as a run begins
abbrev pub roots_at_start : (buffer : Cell) → (frame : ℕ) → Roots
roots_at_start buffer n zero = Some (cell.FileNo 0 ∷ buffer ∷ cell.FileNo 1 ∷ cell.Undef ∷ [])
roots_at_start buffer n (suc zero) = Some (undefined_cells n)
roots_at_start buffer n (suc (suc r)) = None
