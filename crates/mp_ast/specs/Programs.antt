-- Which lists of tokens are programs, and with which a program begins.
use Rattle.std.specs.Prelude.{◌≡◌, ◌-◌, List, [], ◌++◌, map}
use Rattle.mp_base.specs.declared.limits.TheConstants.{OPENER_LIMIT, DEPTH_LIMIT, DECLARATION_LIMIT}
use Rattle.mp_ast.specs.declared.tokens.Token.{Token}
use Rattle.mp_ast.specs.declared.tokens.TokenKind.{TokenKind}
use Rattle.mp_ast.specs.declared.blocks.Tree.{Tree}
use Rattle.mp_ast.specs.Rules.{Input}
use Rattle.mp_ast.specs.BlockGrammar.{Limits, program}

-- the limits of the language; of blocks and declarations the program itself is one
abbrev pub standard : Limits
standard = record { openers = OPENER_LIMIT; depth = DEPTH_LIMIT - 1; declarations = DECLARATION_LIMIT - 1 }

abbrev pub kinds_of : List Token → List TokenKind
kinds_of tokens = map (λ t. t.kind) tokens

abbrev pub start_of : List TokenKind → Input
start_of kinds = record { at = 0; declared = 0; rest = kinds }

-- The tokens, all of them, are those of a program with this tree. Only their kinds count, not their places.
abbrev pub Derives : Limits → List TokenKind → Tree → Type 0
Derives limits kinds tree = (j : Input) × program limits (start_of kinds) tree j × (j.rest ≡ [])

abbrev pub HasTree : Limits → List TokenKind → Type 0
HasTree limits kinds = (tree : Tree) × Derives limits kinds tree

-- a program begins with the tokens
abbrev pub IsViable : Limits → List TokenKind → Type 0
IsViable limits kinds = (more : List TokenKind) × HasTree limits (kinds ++ more)

-- a list of tokens has at most one tree
abbrev pub HaveOneTree : Limits → List TokenKind → Type 0
HaveOneTree limits kinds = (s t : Tree) → Derives limits kinds s → Derives limits kinds t → s ≡ t
