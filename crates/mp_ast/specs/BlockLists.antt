-- The blocks of a tree as code lists them.
use Rattle.std.specs.Prelude.{◌≡◌, ℕ, List, count_by, bytes_eq}
use Rattle.std.specs.Option.{unwrap_or}
use Rattle.std.specs.HashMap.{HashMap, get}
use Rattle.mp_ast.specs.declared.block_list.PlacedBlock.{PlacedBlock as ListedBlock}
use Rattle.mp_ast.specs.PlainTrees.{plain_block, trees_of, plain_tree}
use Rattle.mp_ast.specs.Blocks.{PlacedBlock}
use Rattle.mp_ast.specs.SharedTrees.{own_of, inside_of}

-- a block that code has listed, as a block in its text
abbrev pub placed : ListedBlock → PlacedBlock
placed b = record { path = b.path; start = b.start; own = plain_block (own_of b.tree); inside = trees_of plain_tree (inside_of b.tree) }

-- the number that is kept of a name; 0 where none is
abbrev pub counted : {S : Type 0} → HashMap (List ℕ) ℕ S → List ℕ → ℕ
counted counts name = unwrap_or (get bytes_eq counts name) 0

-- of each name, how often it stands among these is kept
abbrev pub AreCounted : {S : Type 0} → HashMap (List ℕ) ℕ S → List (List ℕ) → Type 0
AreCounted counts earlier = (name : List ℕ) → counted counts name ≡ count_by (bytes_eq name) earlier
