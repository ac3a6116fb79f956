-- How what the code finds is seen by the rules.
use Rattle.std.specs.Prelude.{◌≡◌, ℕ, ◌||◌, IsTrue, List, Option, Some, None, map, bytes_eq}
use Rattle.std.specs.Map.{lookup}
use Rattle.mp_base.specs.declared.path.PathStep.{PathStep}
use Rattle.mp_ast.specs.Blocks.{same_path}
use Rattle.mp_tables.specs.declared.types.TypeId.{TypeId}
use Rattle.mp_tables.specs.declared.types.TypeId.TheVariants as type
use Rattle.mp_tables.specs.declared.declarations.Decl.{Decl}
use Rattle.mp_tables.specs.declared.declarations.Decl.TheVariants as decl
use Rattle.mp_tables.specs.declared.tables.Entry.{Entry}
use Rattle.mp_tables.specs.Standing.{Types}
use Rattle.mp_tables.specs.Names.{Use, Declared}
use Rattle.mp_tables.specs.DefiningPoints.{Points}
use Rattle.mp_tables.specs.Reports.{pure, ◌>>=◌}
use Rattle.mp_tables.specs.Denoters.{Known, Headed, Elaboration, typed_here_if, size_of}
use Rattle.mp_tables.specs.Headings as heading
use Rattle.mp_decl.specs.declared.parameters.FormalParameter.{FormalParameter}
use Rattle.mp_decl.specs.declared.known.Known.{Known as KnownHere}
use Rattle.mp_decl.specs.declared.known.Headed.{Headed as HeadedHere}

-- a name that the code finds declared
abbrev pub use_of : Option Decl → Option Use
use_of None = None
use_of (Some d) = Some (Declared d)

abbrev pub parameter_of : FormalParameter → heading.FormalParameter
parameter_of p = record { formal = p.formal.now; own = p.own }

abbrev pub headed_of : HeadedHere → Headed
headed_of h = record { at = h.at; heading = h.heading }

-- what the code knows of a block
abbrev pub known_of : KnownHere → Known
known_of k = record { names = k.names; shapes = k.shapes; headings = map headed_of k.headings; nested = k.nested; frame = k.frame; errors = k.errors }

-- the number of cells of a value parameter of this type
abbrev pub value_cells : List PathStep → Option TypeId → Elaboration ℕ
value_cells path id = typed_here_if path id >>= (λ t. pure (size_of t))

-- ---- which types may be asked for: those of the block itself, which never are, and those that stand

abbrev pub MayAsk : Types → List PathStep → TypeId → Type 0
MayAsk types path (type.Own p at) = IsTrue (same_path p path || types (type.Own p at))
MayAsk types path _ = Unit {0}

abbrev pub MayAskIf : Types → List PathStep → Option TypeId → Type 0
MayAskIf types path None = Unit {0}
MayAskIf types path (Some id) = MayAsk types path id

-- the type that a name is
abbrev pub SortMayAsk : Types → List PathStep → Decl → Type 0
SortMayAsk types path (decl.Sort p id) = MayAskIf types path id
SortMayAsk types path _ = Unit {0}

abbrev pub UseMayAsk : Types → List PathStep → Option Decl → Type 0
UseMayAsk types path None = Unit {0}
UseMayAsk types path (Some d) = SortMayAsk types path d

-- each type that has a name may be asked for
pub record SortsStand (types : Types) (path : List PathStep) (names : Points) : Type 0 where
  pub by : (n : List ℕ) (e : Entry) → lookup (bytes_eq n) names ≡ Some e → SortMayAsk types path e.decl
