-- Trees in which the parts of each block fit together, and how their tokens are then spread over their blocks.
use Rattle.std.specs.Prelude.{◌≡◌, ℕ, ◌+◌, ◌≤◌, List, [], ◌∷◌, sum_by, flat_map, IsPermutation}
use Rattle.std.specs.List.{range_with_len}
use Rattle.mp_ast.specs.PlainTrees.{PlainTree, PlainTrees, TreeOf, NoTrees, Beside}
use Rattle.mp_ast.specs.Blocks.{Nested, nested_in, tokens_of, blocks, own_tokens}

-- Each block has a tree for each of its declarations with a block, and no other. The `;` of their headings stand in
-- order among its own tokens, the first of them not before the ordinal `low`.
abbrev mutual
  pub IsWhole : PlainTree → Type 0
  IsWhole (TreeOf own inside) = AreWhole own.tokens 0 (nested_in own) inside

  pub AreWhole : (tokens low : ℕ) → List Nested → PlainTrees → Type 0
  AreWhole tokens low [] NoTrees = low ≤ tokens
  AreWhole tokens low [] (Beside tree more) = ⊥
  AreWhole tokens low (n ∷ nested) NoTrees = ⊥
  AreWhole tokens low (n ∷ nested) (Beside tree more) = (low ≤ n.semicolon) × IsWhole tree × AreWhole tokens (n.semicolon + 1) nested more

-- a tree has the tokens that its blocks have as their own
abbrev pub TokensAddUp : PlainTree → Type 0
TokensAddUp tree = sum_by (λ block. block.own.tokens) (blocks tree) ≡ tokens_of tree

-- the tokens of the text, from the first to the last, are the own tokens of its blocks, each of one of them
abbrev pub EachTokenHasABlock : PlainTree → Type 0
EachTokenHasABlock tree = IsPermutation (flat_map own_tokens (blocks tree)) (range_with_len 0 (tokens_of tree))
