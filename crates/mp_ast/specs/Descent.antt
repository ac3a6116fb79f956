-- From a tree down to the block with a path, step by step, for the code; no statement outside the crate cites it. A law says
-- that the block is that of `block_at`.
use Rattle.std.specs.Prelude.{ℕ, ◌+◌, List, [], ◌∷◌, Option, Some, None, map, filter, if◌then◌else◌, option_and_then, nat_lt}
use Rattle.mp_base.specs.declared.path.PathStep.{PathStep}
use Rattle.mp_ast.specs.declared.blocks.Declaration.{Declaration}
use Rattle.mp_ast.specs.declared.blocks.Tree.{Tree}
use Rattle.mp_ast.specs.PlainTrees.{PlainTree, PlainTrees, TreeOf, NoTrees, Beside, plain_declaration, plain_tree}
use Rattle.mp_ast.specs.Blocks.{Nested, nested_after, nested_in, is_block, same_step, tokens_of, index_from}

-- the blocks of these declarations, behind those of these names
abbrev pub nested_of : List (List ℕ) → List Declaration → List Nested
nested_of earlier declarations = nested_after earlier (filter (λ d. is_block d.body) (map plain_declaration declarations))

-- a block's tree in its text
pub record StandingTree : Type 0 where
  -- the index in the text of its block's first own token
  pub start : ℕ
  pub tree : PlainTree

abbrev pub standing_at : ℕ → Tree → StandingTree
standing_at start tree = record { start = start; tree = plain_tree tree }

-- the tree of the nested block that a step goes to, where the block around it begins at the index `start`
abbrev pub entered : ℕ → PathStep → List Nested → PlainTrees → Option StandingTree
entered start step nested NoTrees = None
entered start step [] (Beside tree more) = None
entered start step (n ∷ nested) (Beside tree more) =
    if same_step n.step step then Some (record { start = start + n.semicolon + 1; tree = tree }) else entered (start + tokens_of tree) step nested more

abbrev pub entered_from : StandingTree → PathStep → Option StandingTree
entered_from s step = entered_in s.start step s.tree
  where
    entered_in : ℕ → PathStep → PlainTree → Option StandingTree
    entered_in start step (TreeOf own inside) = entered start step (nested_in own) inside

-- the tree of the block to which these steps go
abbrev pub descended : StandingTree → List PathStep → Option StandingTree
descended s [] = Some s
descended s (step ∷ path) = option_and_then (λ t. descended t path) (entered_from s step)

-- the index in the text of a block's own token, where it has one
abbrev pub index_at : StandingTree → ℕ → Option ℕ
index_at s ordinal = index_at_in s.start s.tree ordinal
  where
    index_at_in : ℕ → PlainTree → ℕ → Option ℕ
    index_at_in start (TreeOf own inside) ordinal = if nat_lt ordinal own.tokens then Some (index_from start (nested_in own) inside ordinal) else None
