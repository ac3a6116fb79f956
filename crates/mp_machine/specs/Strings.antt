-- A character by itself; only private functions cite this.
use Rattle.std.specs.Prelude.{ℕ, List, ◌∷◌, Option, Some, None, pos}
use Rattle.mp_memory.specs.declared.cells.Cell.{Cell}
use Rattle.mp_memory.specs.declared.cells.Cell.TheVariants as cell

abbrev pub character_of : Cell → Option ℕ
character_of (cell.Int (pos b)) = Some b
character_of _ = None

-- a character before others, where these are defined
abbrev pub before : ℕ → Option (List ℕ) → Option (List ℕ)
before b None = None
before b (Some more) = Some (b ∷ more)
