-- The search for a name as ISO 7185, 6.2.2 describes it: from the block of the use outward, up to the first block that
-- declares the name.
use Rattle.std.specs.Prelude.{◌≡◌, ℕ, List, [], ◌∷◌, ◌++◌, Option, Some, None}
use Rattle.mp_base.specs.declared.path.PathStep.{PathStep}
use Rattle.mp_base.specs.declared.place.Place.{Place}
use Rattle.mp_tables.specs.declared.questions.Seen.{Seen}
use Rattle.mp_tables.specs.declared.tables.Table.{Table}
use Rattle.mp_tables.specs.RequiredNames.{required_name}
use Rattle.mp_tables.specs.Seen.{around_program, declared_or, here, nested_in, semicolon_of, seen}

-- the path of a block by its steps, the innermost first
abbrev pub path_outward : List PathStep → List PathStep
path_outward [] = []
path_outward (step ∷ outward) = path_outward outward ++ step ∷ []

-- What a name is at an ordinal of the block with these steps, the innermost first: what the block says of it; where it does
-- not declare it, what it is in the block around, at the `;` of the heading; and around the program a required identifier.
abbrev pub seen_outward : List Table → List PathStep → ℕ → List ℕ → Seen
seen_outward tables [] at n = declared_or (around_program (required_name n)) (here tables [] at n)
seen_outward tables (step ∷ outward) at n =
    declared_or
    (seen_outward tables outward (semicolon_of (nested_in tables (path_outward outward) step)) n)
    (here tables (path_outward (step ∷ outward)) at n)

-- these steps of a path, the outermost first, in front of others that are the innermost first
abbrev pub turned : List PathStep → List PathStep → List PathStep
turned [] outward = outward
turned (step ∷ inward) outward = turned inward (step ∷ outward)

abbrev pub steps_outward : List PathStep → List PathStep
steps_outward path = turned path []

abbrev pub PathIsKept : Type 0
PathIsKept = (path : List PathStep) → path_outward (steps_outward path) ≡ path

-- The search from the program inward finds what the search from the block outward finds.
abbrev pub SearchIsOutward : Type 0
SearchIsOutward = (tables : List Table) (n : List ℕ) (place : Place) → seen tables n place ≡ seen_outward tables (steps_outward place.path) place.ordinal n
