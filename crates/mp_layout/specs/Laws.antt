-- What holds of sizes, offsets and fields.
use Rattle.std.specs.Prelude.{◌≡◌, ℕ, ◌+◌, ◌<◌, ◌≤◌, ◌+ℤ◌, pos, int_le, true, false, List, length, sum, take, slice_index, Contains, Some, replicate}
use Rattle.mp_tables.specs.declared.types.Bounds.{Bounds}
use Rattle.mp_tables.specs.declared.types.RecordShape.{RecordShape}
use Rattle.mp_tables.specs.declared.types.Slot.{Slot}
use Rattle.mp_tables.specs.declared.types.Shape.{Shape}
use Rattle.mp_tables.specs.declared.types.Shape.TheVariants as shape
use Rattle.mp_tables.specs.Sizes.{array_cells, offsets, saturated, sum_of, values_in}

-- each offset is the sum of the sizes before it, saturated
abbrev pub EachOffsetIsTheSumBefore : List ℕ → Type 0
EachOffsetIsTheSumBefore sizes = (at : ℕ) → at < length sizes → slice_index (offsets sizes) at ≡ saturated (sum (take at sizes))

abbrev pub OffsetsAscend : List ℕ → Type 0
OffsetsAscend sizes = (i j : ℕ) → i ≤ j → j < length sizes → slice_index (offsets sizes) i ≤ slice_index (offsets sizes) j

-- a part ends before each later one begins
abbrev pub PartsStandApart : List ℕ → Type 0
PartsStandApart sizes = (i j : ℕ) → i < j → j < length sizes → slice_index (offsets sizes) i + slice_index sizes i ≤ slice_index (offsets sizes) j

-- each part ends before the cells of all end
abbrev pub PartsStandWithin : List ℕ → Type 0
PartsStandWithin sizes = (i : ℕ) → i < length sizes → slice_index (offsets sizes) i + slice_index sizes i ≤ sum_of sizes

-- behind the least value so many are counted up to the greatest; from a greater one to a less there are none
abbrev pub CountsValues : Bounds → Type 0
CountsValues b = (int_le b.low b.high ≡ true → b.low +ℤ pos (values_in b) ≡ b.high +ℤ pos 1) × (int_le b.low b.high ≡ false → values_in b ≡ 0)

-- an array has the cells of its components, one for each value of its index
abbrev pub ArraysAreTheirComponents : Type 0
ArraysAreTheirComponents = (b : Bounds) (n : ℕ) → array_cells (Some b) n ≡ sum_of (replicate (values_in b) n)

-- the type is a record with a field of this name, which stands there
abbrev pub HasFieldAt : List ℕ → Shape → ℕ → Type 0
HasFieldAt name t offset = (r : RecordShape) × (s : Slot) × (t ≡ shape.Rec r) × Contains r.slots s × (s.name ≡ Some name) × (s.offset ≡ offset)
