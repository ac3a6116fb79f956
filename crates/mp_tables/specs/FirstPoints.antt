-- A name that a block declares is found with its first defining point, whatever stands in the block behind it (ISO 7185, 6.2.2.5).
use Rattle.std.specs.Prelude.{◌≡◌, ℕ, Bool, ◌&&◌, List, [], ◌++◌, Option, bytes_eq, nat_eq, option_map, if◌then◌else◌}
use Rattle.std.specs.Map.{lookup}
use Rattle.mp_base.specs.declared.path.PathStep.{PathStep}
use Rattle.mp_ast.specs.PlainTrees.{PlainBlock}
use Rattle.mp_tables.specs.declared.declarations.Decl.{Decl}
use Rattle.mp_tables.specs.declared.tables.Entry.{Entry}
use Rattle.mp_tables.specs.Asks.{Answers}
use Rattle.mp_tables.specs.DefiningPoints.{Points, Declaring, given_points, label_points, declared_points, with_points, filled}
use Rattle.mp_tables.specs.Headings.{parameters_in}
use Rattle.mp_tables.specs.Elaboration.{parameter_points, given, name_at, nothing_known, elaborate}

-- Of several points of a name the first one is found.
abbrev pub FirstPointIsFound : Points → Type 0
FirstPointIsFound points = (n : List ℕ) → lookup (bytes_eq n) (with_points [] points) ≡ lookup (bytes_eq n) points

-- What a name of this spelling declares behind a definition whose name stands at `at`: where that is the first defining point of
-- the same name, what the definition says, and otherwise what it was.
abbrev pub defined_at : Bool → ℕ → Decl → Entry → Entry
defined_at same at d e = if same && nat_eq e.at at then record { decl = d; at = at; last = e.last } else e

-- A definition fills in its own name alone, and that only where its point is the first one.
abbrev pub OwnPointIsFilled : Points → Type 0
OwnPointIsFilled known =
    (n m : List ℕ) (at : ℕ) (d : Decl) → lookup (bytes_eq n) (filled m at d known) ≡ option_map (defined_at (bytes_eq m n) at d) (lookup (bytes_eq n) known)

-- the tokens of a defining point: its own, and the last one of the definition that it begins
pub record Tokens : Type 0 where
  pub at : ℕ
  pub last : ℕ

abbrev pub tokens_of : Option Entry → Option Tokens
tokens_of found = option_map (λ e. record { at = e.at; last = e.last }) found

-- all defining points of a block, in order: those of the program's heading, its parameters, its labels, and its declarations
abbrev pub points_of : Answers → Declaring → Points
points_of a b =
    given_points b (parameter_points b.path (parameters_in b.heading.formals) ((given b (name_at b.path) nothing_known).run a).1.frame)
    ++ (label_points b ++ declared_points b)

-- When all declarations of a block are read, each of its names is found with the tokens of its first defining point, and no other
-- name is found.
abbrev pub FirstPointsStand : Answers → List PathStep → PlainBlock → Type 0
FirstPointsStand a path own =
    (n : List ℕ) →
    tokens_of (lookup (bytes_eq n) ((elaborate path own).run a).table.names)
    ≡ tokens_of (lookup (bytes_eq n) (points_of a (record { path = path; own = own; heading = a.heading path })))
