-- What the crate counts and finds, beside the sizes of types.
use Rattle.std.specs.Prelude.{◌≡◌, ℕ, ℤ, List, Option, None, option_map}
use Rattle.mp_tables.specs.declared.types.TypeId.{TypeId}
use Rattle.mp_tables.specs.declared.types.Shape.{Shape}
use Rattle.mp_tables.specs.declared.types.Shape.TheVariants as shape
use Rattle.mp_tables.specs.Sizes.{slot_named, values_in}

-- so many values stand from the least to the greatest, whatever type they are of
abbrev pub ValuesAre : ℤ → ℤ → ℕ → Type 0
ValuesAre low high n = (host : TypeId) → n ≡ values_in (record { host = host; low = low; high = high })

-- the offset that a record's shape holds of its field of this name
abbrev pub offset_of : List ℕ → Shape → Option ℕ
offset_of n (shape.Rec r) = option_map (λ s. s.offset) (slot_named n r.slots)
offset_of n _ = None
