-- The first syntax error of a list of tokens: the first token with which no program begins, and its code.
use Rattle.std.specs.Prelude.{◌≡◌, ℕ, ◌+◌, ◌≤◌, ◌<◌, List, length, take}
use Rattle.mp_ast.specs.declared.tokens.TokenKind.{TokenKind}
use Rattle.mp_ast.specs.BlockGrammar.{Limits}
use Rattle.mp_ast.specs.Programs.{HasTree, IsViable}

-- limits of which none is lower
pub record NoLower (limits others : Limits) : Type 0 where
  pub openers : limits.openers ≤ others.openers
  pub depth : limits.depth ≤ others.depth
  pub declarations : limits.declarations ≤ others.declarations

-- the same limits, but for more declarations
pub record MoreDeclarations (limits others : Limits) : Type 0 where
  pub openers : limits.openers ≡ others.openers
  pub depth : limits.depth ≡ others.depth
  pub declarations : limits.declarations ≤ others.declarations

abbrev Not : Type 0 → Type 0
Not P = P → ⊥

-- Why no program begins with a list of tokens that ends with the wrong one. A list is finite, so that it is that of a
-- program without limits exactly where it is one under some limits.

-- a program without the limit on declarations begins with them
abbrev pub HasTooManyDeclarations : Limits → List TokenKind → Type 0
HasTooManyDeclarations limits kinds = (others : Limits) × MoreDeclarations limits others × IsViable others kinds

-- a program without the limits begins with them
abbrev pub IsTooDeep : Limits → List TokenKind → Type 0
IsTooDeep limits kinds = (others : Limits) × NoLower limits others × IsViable others kinds

-- The code of the error at a token, or at the end where all tokens stand before it. Each code comes where none of those
-- above it does.
pub data HasCode (limits : Limits) (kinds : List TokenKind) (index : ℕ) : ℕ → Type 0 where
  -- 202, text ends too early
  ends_early : index ≡ length kinds → HasCode limits kinds index 202
  -- 205, text after the program
  follows_the_program : index < length kinds → HasTree limits (take index kinds) → HasCode limits kinds index 205
  -- 204, too many blocks
  too_many_blocks : index < length kinds → Not (HasTree limits (take index kinds))
      → HasTooManyDeclarations limits (take (index + 1) kinds) → HasCode limits kinds index 204
  -- 203, nested too deep
  nested_too_deep : index < length kinds → Not (HasTree limits (take index kinds))
      → Not (HasTooManyDeclarations limits (take (index + 1) kinds)) → IsTooDeep limits (take (index + 1) kinds)
      → HasCode limits kinds index 203
  -- 201, syntax error
  wrong : index < length kinds → Not (HasTree limits (take index kinds))
      → Not (IsTooDeep limits (take (index + 1) kinds)) → HasCode limits kinds index 201

-- The first error of a list without a tree: a program begins with the tokens before it, and none with it as well. At
-- the end there is no token more.
pub record IsFirstError (limits : Limits) (kinds : List TokenKind) (index code : ℕ) : Type 0 where
  pub no_tree : Not (HasTree limits kinds)
  pub within : index ≤ length kinds
  pub before : IsViable limits (take index kinds)
  pub at : index < length kinds → Not (IsViable limits (take (index + 1) kinds))
  pub cause : HasCode limits kinds index code
