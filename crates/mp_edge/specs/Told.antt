-- Lists of bytes that a source or a sink may tell.
use Rattle.std.specs.Prelude.{◌≡◌, ℕ, List, ◌++◌, Option, None, Some, ⊤}

-- The told bytes grow by these. Telling may stop, and does not begin again.
abbrev pub Grows : Option (List ℕ) → Option (List ℕ) → List ℕ → Type 0
Grows (Some old) (Some new) bytes = new ≡ old ++ bytes
Grows (Some old) None bytes = ⊤
Grows None (Some new) bytes = ⊥
Grows None None bytes = ⊤

-- these bytes stand at the front of those
abbrev pub IsFront : List ℕ → List ℕ → Type 0
IsFront front bytes = (rest : List ℕ) × (bytes ≡ front ++ rest)

-- the told bytes grow by a front of these
abbrev pub GrowsPartly : Option (List ℕ) → Option (List ℕ) → List ℕ → Type 0
GrowsPartly old new bytes = (front : List ℕ) × Grows old new front × IsFront front bytes
