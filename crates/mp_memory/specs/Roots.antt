-- The cells under a root, and what is found there.
use Rattle.std.specs.Prelude.{◌≡◌, ℕ, ◌+◌, ◌<◌, ◌≤◌, Bool, true, false, List, ◌++◌, length, take, drop, Option, Some, None, nat_eq, nat_le, slice_get}
use Rattle.std.specs.BTreeMap.{is_at}
use Rattle.std.specs.Map.{lookup}
use Rattle.std.specs.Ordering.{nat_cmp}
use Rattle.mp_memory.specs.declared.cells.Cell.{Cell}

-- the roots by their numbers; there is none that was dropped, or was never given
abbrev pub Roots : Type 0
Roots = ℕ → Option (List Cell)

pub data Found (A : Type 0) : Type 0 where
  Got : A → Found A
  -- there is no such root
  Dropped : Found A
  -- outside of its cells
  Outside : Found A

abbrev pub found : {A : Type 0} → Option A → Found A
found None = Outside
found (Some x) = Got x

abbrev pub cell_at : Option (List Cell) → ℕ → Found Cell
cell_at None o = Dropped
cell_at (Some cells) o = found (slice_get cells o)

-- so many cells from the offset on
abbrev pub cells_at : Option (List Cell) → (offset count : ℕ) → Found (List Cell)
cells_at None o n = Dropped
cells_at (Some cells) o n = elim (nat_le (o + n) (length cells)) as (λ fit. Found (List Cell)) [
  | true ↦ Got (take n (drop o cells))
  | false ↦ Outside
]

abbrev pub laid_over : List Cell → ℕ → List Cell → List Cell
laid_over cells o new = take o cells ++ new ++ drop (o + length new) cells

-- Of the cells after, those from the offset on are the new ones, and all others are as they were.
pub record IsLaidOver (cells : List Cell) (o : ℕ) (new after : List Cell) : Type 0 where
  pub as_many : length after ≡ length cells
  pub before : (k : ℕ) → k < o → slice_get after k ≡ slice_get cells k
  pub inside : (k : ℕ) → k < length new → slice_get after (o + k) ≡ slice_get new k
  pub behind : (k : ℕ) → o + length new ≤ k → slice_get after k ≡ slice_get cells k

abbrev pub CellsAreLaidOver : Type 0
CellsAreLaidOver = (cells : List Cell) (o : ℕ) (new : List Cell) → o + length new ≤ length cells → IsLaidOver cells o new (laid_over cells o new)

-- the cells with these in place of those from the offset on
abbrev pub with_cells : Option (List Cell) → ℕ → List Cell → Found (List Cell)
with_cells None o new = Dropped
with_cells (Some cells) o new = elim (nat_le (o + length new) (length cells)) as (λ fit. Found (List Cell)) [
  | true ↦ Got (laid_over cells o new)
  | false ↦ Outside
]

abbrev pub with_root : {A : Type 0} → (ℕ → A) → ℕ → A → ℕ → A
with_root {A} roots r new q = elim (nat_eq q r) as (λ is. A) [ true ↦ new | false ↦ roots q ]

-- what is found, if anything is
abbrev pub got : {A : Type 0} → Found A → Option A
got (Got x) = Some x
got Dropped = None
got Outside = None

abbrev pub is_got : {A : Type 0} → Found A → Bool
is_got (Got x) = true
is_got Dropped = false
is_got Outside = false

-- the new cells under a root, or the old ones where there are no new ones
abbrev pub new_or_old : Found (List Cell) → Option (List Cell) → Option (List Cell)
new_or_old (Got new) old = Some new
new_or_old Dropped old = old
new_or_old Outside old = old

-- the roots with these cells in place of those from the offset on, where they are there
abbrev pub with_cells_at : Roots → (root offset : ℕ) → List Cell → Roots
with_cells_at roots r o new = with_root roots r (new_or_old (with_cells (roots r) o new) (roots r))

-- what a store holds: the cells of each live root, and the number that the next root will have
pub record Contents : Type 0 where
  pub entries : List (ℕ × List Cell)
  pub next : ℕ

abbrev pub roots_of : Contents → Roots
roots_of c q = lookup (is_at (nat_cmp q)) c.entries

-- no number from the next one on was given
pub record HasFreshNumbers (c : Contents) : Type 0 where
  pub fresh : (q : ℕ) → c.next ≤ q → roots_of c q ≡ None
