-- Which types are ordinal, and with which host (ISO 7185, 6.4.2).
use Rattle.std.specs.Prelude.{◌≡◌, List, ℕ, Some}
use Rattle.mp_tables.specs.declared.types.TypeId.{TypeId}
use Rattle.mp_tables.specs.declared.types.Bounds.{Bounds}
use Rattle.mp_tables.specs.declared.types.Shape.{Shape}
use Rattle.mp_tables.specs.declared.types.Shape.TheVariants as shape
use Rattle.mp_tables.specs.declared.types.Typed.{Typed}
use Rattle.mp_tables.specs.TypeRelations.{ordinal}

-- a subrange, of which integer and char are two, or an enumeration
pub data IsRangeOrNames : Shape → Type 0 where
  IsRange : (b : Bounds) → IsRangeOrNames (shape.Range b)
  IsNames : (names : List (List ℕ)) → IsRangeOrNames (shape.Names names)

-- an ordinal type, whose values are those of this host or some of them
abbrev pub IsOrdinalOf : TypeId → Typed → Type 0
IsOrdinalOf host t = (b : Bounds) × (ordinal t ≡ Some b) × (b.host ≡ host)
