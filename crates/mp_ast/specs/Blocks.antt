-- The blocks of a program (ISO 7185, 6.2), and where their tokens stand in its text. A block is the program's or that of
-- one declaration; a `forward` declaration has none. Each token belongs to one block: a heading with its `;` to the
-- enclosing block, and what follows up to the nested block's `end` to the nested one.
use Rattle.std.specs.Prelude.{◌≡◌, ℕ, ◌+◌, Bool, true, false, ◌&&◌, List, [], ◌∷◌, ◌++◌, Option, Some, None, map, filter, find}
use Rattle.std.specs.Prelude.{count_by, length, slice_get, nat_eq, nat_le, nat_lt, bytes_eq, if◌then◌else◌, option_map}
use Rattle.std.specs.Prelude.{option_and_then}
use Rattle.std.specs.List.{range_with_len, IsDistinct, AllByRecursion}
use Rattle.mp_base.specs.declared.path.PathStep.{PathStep}
use Rattle.mp_base.specs.declared.place.At.{At}
use Rattle.mp_base.specs.declared.place.Place.{Place}
use Rattle.mp_base.specs.Position.{position_of}
use Rattle.mp_base.specs.Text.{bytes_of}
use Rattle.mp_ast.specs.declared.tokens.Token.{Token}
use Rattle.mp_ast.specs.declared.blocks.DeclaredBody.{DeclaredBody}
use Rattle.mp_ast.specs.declared.blocks.DeclaredBody.TheVariants as body
use Rattle.mp_ast.specs.PlainTrees.{PlainDeclaration, PlainBlock, PlainTree, PlainTrees, TreeOf, NoTrees, Beside}

-- ---- nested blocks, as their enclosing block has them

-- a nested block: the step to it, and the ordinal of the `;` behind which its tokens stand
pub record Nested : Type 0 where
  pub step : PathStep
  pub semicolon : ℕ

abbrev pub is_block : DeclaredBody → Bool
is_block body.Block = true
is_block (body.Forward at) = false

-- The blocks of these declarations, each of which has one. A step counts, from 1, the declarations of its name; these
-- are the names of the earlier ones.
abbrev pub nested_after : List (List ℕ) → List PlainDeclaration → List Nested
nested_after earlier [] = []
nested_after earlier (d ∷ more) =
    let name = d.heading.name.name in
    record { step = record { name = name; nth = count_by (bytes_eq name) earlier + 1 }; semicolon = d.semicolon } ∷ nested_after (name ∷ earlier) more

-- the blocks that stand directly in a block, in order
abbrev pub nested_in : PlainBlock → List Nested
nested_in own = nested_after [] (filter (λ d. is_block d.body) own.declarations)

-- ---- how many tokens a tree has in all: its block's own, and those of the trees in it
abbrev mutual
  pub tokens_of : PlainTree → ℕ
  tokens_of (TreeOf own inside) = own.tokens + tokens_of_all inside

  pub tokens_of_all : PlainTrees → ℕ
  tokens_of_all NoTrees = 0
  tokens_of_all (Beside tree more) = tokens_of tree + tokens_of_all more

-- ---- the blocks of a tree

-- a block in its text
pub record PlacedBlock : Type 0 where
  -- the steps to it from the program's block, the outermost first
  pub path : List PathStep
  -- the index in the text of its first own token
  pub start : ℕ
  pub own : PlainBlock
  -- the trees of the blocks that stand directly in it
  pub inside : PlainTrees

-- A block comes before those in it, and those in order. Behind a nested block, its enclosing block's tokens stand
-- further on by as many as the nested block has.
abbrev mutual
  pub blocks_from : List PathStep → ℕ → PlainTree → List PlacedBlock
  blocks_from path start (TreeOf own inside) =
      record { path = path; start = start; own = own; inside = inside } ∷ blocks_inside path start (nested_in own) inside

  pub blocks_inside : List PathStep → ℕ → List Nested → PlainTrees → List PlacedBlock
  blocks_inside path start nested NoTrees = []
  blocks_inside path start [] (Beside tree more) = []
  blocks_inside path start (n ∷ nested) (Beside tree more) =
      blocks_from (path ++ n.step ∷ []) (start + n.semicolon + 1) tree ++ blocks_inside path (start + tokens_of tree) nested more

-- the blocks of a program, in order of text
abbrev pub blocks : PlainTree → List PlacedBlock
blocks program = blocks_from [] 0 program

-- ---- where a block's own tokens stand

-- The index in the text of the own token with an ordinal, of a block whose first own token has the index `start`. The
-- tokens of a nested block stand right behind the `;` of its heading, and have no ordinal in the enclosing block.
abbrev pub index_from : ℕ → List Nested → PlainTrees → ℕ → ℕ
index_from start nested NoTrees ordinal = start + ordinal
index_from start [] (Beside tree more) ordinal = start + ordinal
index_from start (n ∷ nested) (Beside tree more) ordinal =
    if nat_le ordinal n.semicolon then start + ordinal else index_from (start + tokens_of tree) nested more ordinal

abbrev pub index_in : PlacedBlock → ℕ → ℕ
index_in block ordinal = index_from block.start (nested_in block.own) block.inside ordinal

-- the indices in the text of a block's own tokens, in order
unfoldable pub own_tokens : PlacedBlock → List ℕ
own_tokens block = map (index_in block) (range_with_len 0 block.own.tokens)

-- ---- places

abbrev pub same_step : PathStep → PathStep → Bool
same_step s t = bytes_eq s.name t.name && nat_eq s.nth t.nth

abbrev pub same_path : List PathStep → List PathStep → Bool
same_path [] [] = true
same_path [] (t ∷ other) = false
same_path (s ∷ path) [] = false
same_path (s ∷ path) (t ∷ other) = same_step s t && same_path path other

-- the block with a path
abbrev pub block_at : PlainTree → List PathStep → Option PlacedBlock
block_at program path = find (λ block. same_path block.path path) (blocks program)

-- no two blocks have the same path
abbrev pub PathsDiffer : PlainTree → Type 0
PathsDiffer program = IsDistinct (λ a b. same_path a.path b.path) (blocks program)

-- each block is the one with its path
abbrev pub EachIsAtItsPath : PlainTree → Type 0
EachIsAtItsPath program = AllByRecursion (λ block. block_at program block.path ≡ Some block) (blocks program)

abbrev pub own_index : PlacedBlock → ℕ → Option ℕ
own_index block ordinal = if nat_lt ordinal block.own.tokens then Some (index_in block ordinal) else None

-- the index in the text of the token at a place, where there is one
abbrev pub index_of : PlainTree → Place → Option ℕ
index_of program place = option_and_then (λ block. own_index block place.ordinal) (block_at program place.path)

-- The line and column of the first byte of the token with an index, or the end of the text where no token has it.
abbrev pub token_position : List (List ℕ) → List Token → ℕ → At
token_position text tokens index = position_from_start (slice_get tokens index)
  where
    position_from_start : Option Token → At
    position_from_start (Some token) = position_of text token.start
    position_from_start None = position_of text (length (bytes_of text))

-- the line and column of a place of a program, whose text has these tokens
abbrev pub position : List (List ℕ) → List Token → PlainTree → Place → Option At
position text tokens program place = option_map (token_position text tokens) (index_of program place)
