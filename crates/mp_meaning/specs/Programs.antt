-- What a program is for its runs: its blocks with their frames (ISO 7185, 6.2, 6.6).
use Rattle.std.specs.Prelude.{ℕ, Bool, true, false, ◌&&◌, not, List, [], ◌∷◌, Option, Some, None, find, sum_by, filter, length, nat_eq}
use Rattle.mp_tables.specs.declared.types.TypeId.{TypeId}
use Rattle.mp_tables.specs.declared.headings.FormalKind.TheVariants as formal
use Rattle.mp_tables.specs.declared.typed_statements.FrameKind.{FrameKind}
use Rattle.mp_tables.specs.declared.typed_statements.FrameKind.TheVariants as kind
use Rattle.mp_tables.specs.declared.typed_statements.FrameSlot.{FrameSlot}
use Rattle.mp_tables.specs.PlainTypedStatements.{PlainTypedBlock, PlainTypedStatement, PlainTypedStatements}
use Rattle.mp_tables.specs.PlainTypedStatements as tree
pub use Rattle.mp_tables.specs.Frames.{is_result, is_parameter, variable_number, result_number}
use Rattle.mp_meaning.specs.Names.{Path, same_path}
use Rattle.mp_meaning.specs.Forms.{Form, OneCell, cells_of}
use Rattle.mp_meaning.specs.Values.{Values, NoValues, Then, undefined}

-- The blocks of a program, those of them that a run may not enter, and the forms of the variables of its types.
pub record Program : Type 0 where
  pub blocks : List PlainTypedBlock
  pub is_closed : Path → Bool
  pub form : TypeId → Form

abbrev pub block_of : Program → Path → Option PlainTypedBlock
block_of p path = find (λ b. same_path b.path path) p.blocks

-- ---- frames: the parameters, a function's result, and the variables, in this order

-- the cell of the function's result, in its frame
abbrev pub offset_in : Option FrameSlot → ℕ
offset_in None = 0
offset_in (Some s) = s.offset

abbrev pub result_offset : List FrameSlot → ℕ
result_offset frame = offset_in (find (λ s. is_result s.kind) frame)

abbrev pub parameter_count : List FrameSlot → ℕ
parameter_count frame = length (filter (λ s. is_parameter s.kind) frame)

-- a variable of this type, where it has one
abbrev pub form_of : (TypeId → Form) → Option TypeId → Form
form_of form None = OneCell
form_of form (Some id) = form id

-- a variable, a value parameter or a result is of its type; a reference and a routine are one cell
abbrev pub slot_form : (TypeId → Form) → FrameKind → Option TypeId → Form
slot_form form (kind.Parameter formal.Value) of = form_of form of
slot_form form (kind.Parameter formal.Variable) of = OneCell
slot_form form (kind.Parameter formal.Procedure) of = OneCell
slot_form form (kind.Parameter formal.Function) of = OneCell
slot_form form kind.Result of = form_of form of
slot_form form kind.Variable of = form_of form of

-- the cells of a frame
abbrev pub frame_cells : (TypeId → Form) → List FrameSlot → ℕ
frame_cells form frame = sum_by (λ s. cells_of (slot_form form s.kind s.of)) frame

-- the frame of a called block: the actual parameters, and all else undefined
abbrev pub frame_values : (TypeId → Form) → Values → List FrameSlot → Values
frame_values form actuals [] = NoValues
frame_values form NoValues (s ∷ more) = Then (undefined (slot_form form s.kind s.of)) (frame_values form NoValues more)
frame_values form (Then v actuals) (s ∷ more) = Then v (frame_values form actuals more)

-- ---- labels (6.8.1)

abbrev pub is_labelled : ℕ → PlainTypedStatement → Bool
is_labelled l (tree.Labelled m s) = nat_eq m l
is_labelled l _ = false

-- the rest of a statement sequence from the label on
abbrev pub from_label : ℕ → PlainTypedStatements → Option PlainTypedStatements
from_label l tree.NoStatements = None
from_label l (tree.Sequence s more) = elim (is_labelled l s) as (λ is. Option PlainTypedStatements) [
  | true ↦ Some (tree.Sequence s more)
  | false ↦ from_label l more
]

abbrev pub is_found : {A : Type 0} → Option A → Bool
is_found None = false
is_found (Some x) = true

-- the label stands in the outermost sequence of a block that a run may enter
abbrev pub leads_into : Program → Path → ℕ → Bool
leads_into p path l = elim (block_of p path) as (λ b. Bool) [
  | None ↦ false
  | Some b ↦ not (p.is_closed path) && is_found (from_label l b.statements)
]
