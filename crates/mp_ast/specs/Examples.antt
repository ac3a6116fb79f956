-- Examples of the grammar, for each chapter: a list of tokens, and the tree that a rule relates to it.
use Rattle.std.specs.Prelude.{◌≡◌, ◌≢◌, ℕ, zero, suc, true, false, List, [], ◌∷◌, Option, Some, None, codes}
use Rattle.mp_ast.specs.declared.tokens.TokenKind.{TokenKind}
use Rattle.mp_ast.specs.declared.tokens.TokenKind.TheVariants.{Id, Number as Digits, Text, Word, Symbol}
use Rattle.mp_ast.specs.declared.words.WordSymbol.TheVariants as words
use Rattle.mp_ast.specs.declared.symbols.Symbol.TheVariants as symbols
use Rattle.mp_ast.specs.declared.leaves.Identifier.{Identifier}
use Rattle.mp_ast.specs.declared.leaves.Number.{Number}
use Rattle.mp_ast.specs.declared.leaves.SignKind.TheVariants as signs
use Rattle.mp_ast.specs.declared.leaves.Constant.{Constant}
use Rattle.mp_ast.specs.declared.leaves.Constant.TheVariants as constants
use Rattle.mp_ast.specs.declared.expressions.Operator.TheVariants as operators
use Rattle.mp_ast.specs.declared.expressions.Selector.TheVariants as selectors
use Rattle.mp_ast.specs.declared.expressions.Operation.{Operation}
use Rattle.mp_ast.specs.declared.expressions.Expr.{Expr}
use Rattle.mp_ast.specs.declared.expressions.Expr.TheVariants as expressions
use Rattle.mp_ast.specs.declared.statements.Arm.{Arm}
use Rattle.mp_ast.specs.declared.statements.Statement.{Statement}
use Rattle.mp_ast.specs.declared.statements.Statement.TheVariants as statements
use Rattle.mp_ast.specs.declared.types.Section.{Section}
use Rattle.mp_ast.specs.declared.types.Variant.{Variant}
use Rattle.mp_ast.specs.declared.types.VariantPart.{VariantPart}
use Rattle.mp_ast.specs.declared.types.Denoter.{Denoter}
use Rattle.mp_ast.specs.declared.types.Denoter.TheVariants as denoters
use Rattle.mp_ast.specs.declared.headings.FormalSection.TheVariants as sections
use Rattle.mp_ast.specs.declared.headings.HeadingKind.TheVariants as heading_kinds
use Rattle.mp_ast.specs.declared.headings.HeadingTree.{HeadingTree}
use Rattle.mp_ast.specs.declared.blocks.ProgramHeading.{ProgramHeading}
use Rattle.mp_ast.specs.declared.blocks.Block.{Block}
use Rattle.mp_ast.specs.declared.blocks.DeclaredBody.TheVariants as bodies
use Rattle.mp_ast.specs.declared.blocks.StatementPart.TheVariants.{Compound}
use Rattle.mp_ast.specs.declared.blocks.Tree.{Tree, roll-Tree}
use Rattle.mp_ast.specs.Rules.{Rule, Input}
use Rattle.mp_ast.specs.ExpressionGrammar.{expression}
use Rattle.mp_ast.specs.StatementGrammar.{statement}
use Rattle.mp_ast.specs.TypeGrammar.{denoter}
use Rattle.mp_ast.specs.HeadingGrammar.{heading}
use Rattle.mp_ast.specs.BlockGrammar.{Limits, block_with, nested_block}
use Rattle.mp_ast.specs.Programs.{start_of, standard, Derives}
use Rattle.mp_ast.specs.FirstError.{IsFirstError}

-- the rule relates the tokens, all of them, to the tree
abbrev pub DerivesBy : {A : Type 0} → Rule A → List TokenKind → A → Type 0
DerivesBy rule kinds tree = (j : Input) × rule (start_of kinds) tree j × (j.rest ≡ [])

-- ---- tokens, as the lists below write them

abbrev pub a : List ℕ
a = codes "a"

abbrev pub b : List ℕ
b = codes "b"

abbrev pub c : List ℕ
c = codes "c"

abbrev pub f : List ℕ
f = codes "f"

abbrev pub i : List ℕ
i = codes "i"

abbrev j : List ℕ
j = codes "j"

abbrev pub n : List ℕ
n = codes "n"

abbrev pub p : List ℕ
p = codes "p"

abbrev pub q : List ℕ
q = codes "q"

abbrev x : List ℕ
x = codes "x"

abbrev pub plus : TokenKind
plus = Symbol symbols.Plus

abbrev pub minus : TokenKind
minus = Symbol symbols.Minus

abbrev star : TokenKind
star = Symbol symbols.Star

abbrev pub equal : TokenKind
equal = Symbol symbols.Equal

abbrev less_equal : TokenKind
less_equal = Symbol symbols.LessEqual

abbrev pub left_bracket : TokenKind
left_bracket = Symbol symbols.LeftBracket

abbrev pub right_bracket : TokenKind
right_bracket = Symbol symbols.RightBracket

abbrev pub left_paren : TokenKind
left_paren = Symbol symbols.LeftParen

abbrev pub right_paren : TokenKind
right_paren = Symbol symbols.RightParen

abbrev pub dot : TokenKind
dot = Symbol symbols.Dot

abbrev pub dots : TokenKind
dots = Symbol symbols.DotDot

abbrev pub comma : TokenKind
comma = Symbol symbols.Comma

abbrev pub colon : TokenKind
colon = Symbol symbols.Colon

abbrev pub assign : TokenKind
assign = Symbol symbols.Assign

abbrev pub semicolon : TokenKind
semicolon = Symbol symbols.Semicolon

abbrev caret : TokenKind
caret = Symbol symbols.Caret

-- ---- leaves of the trees, each with its ordinal

abbrev pub named : ℕ → List ℕ → Identifier
named at name = record { at = at; name = name }

abbrev pub digits : ℕ → ℕ → Number
digits at value = record { at = at; value = value }

abbrev pub variable : ℕ → List ℕ → Expr
variable at name = expressions.Access (record { name = named at name; selectors = [] })

abbrev number : ℕ → ℕ → Expr
number at value = expressions.Number (digits at value)

abbrev pub constant : ℕ → ℕ → Constant
constant at value = constants.Number None (digits at value)

-- ---- expressions

-- - a[i, j]^.f * (2 + n) <= [1 .. 3, x]
abbrev expression_tokens : List TokenKind
expression_tokens =
    minus ∷ Id a ∷ left_bracket ∷ Id i ∷ comma ∷ Id j ∷ right_bracket ∷ caret ∷ dot ∷ Id f ∷ star
    ∷ left_paren ∷ Digits 2 ∷ plus ∷ Id n ∷ right_paren ∷ less_equal
    ∷ left_bracket ∷ Digits 1 ∷ dots ∷ Digits 3 ∷ comma ∷ Id x ∷ right_bracket ∷ []

-- a[i, j]^.f
abbrev field : Expr
field = expressions.Access (record {
  name = named 1 a;
  selectors = selectors.Index 2 (variable 3 i) ∷ selectors.Index 4 (variable 5 j) ∷ selectors.Follow 7 ∷ selectors.Field 8 (named 9 f) ∷ [];
})

-- * (2 + n)
abbrev times_sum : Operation Expr
times_sum = record {
  at = 10;
  operator = operators.Multiply;
  operand = expressions.Inside 11 (expressions.Sum None (number 12 2) (record { at = 13; operator = operators.Add; operand = variable 14 n } ∷ []));
}

-- <= [1 .. 3, x]
abbrev within_set : Operation Expr
within_set = record {
  at = 16;
  operator = operators.LessOrEqual;
  operand = expressions.Set 17 (record { first = number 18 1; last = Some (number 20 3) } ∷ record { first = variable 22 x; last = None } ∷ []);
}

-- The sign is that of the whole term, and a further index stands at its comma.
abbrev expression_tree : Expr
expression_tree = expressions.Relation (expressions.Sum (Some (record { at = 0; kind = signs.Minus })) (expressions.Product field (times_sum ∷ [])) []) within_set

-- where one more opener may stand open
abbrev pub ExpressionExample : Type 0
ExpressionExample = (room : ℕ) → DerivesBy (expression (suc room)) expression_tokens expression_tree

-- ---- statements

abbrev pub call : ℕ → List ℕ → Statement
call at name = statements.Call (named at name) []

-- if a then if b then p else q
abbrev else_tokens : List TokenKind
else_tokens = Word words.If ∷ Id a ∷ Word words.Then ∷ Word words.If ∷ Id b ∷ Word words.Then ∷ Id p ∷ Word words.Else ∷ Id q ∷ []

-- The `else` is the inner one's.
abbrev else_tree : Statement
else_tree = statements.If 0 (variable 1 a) (statements.If 3 (variable 4 b) (call 6 p) (Some (call 8 q))) None

-- 9: case i of 1, 2: x := 1; 'a': ; end
abbrev case_tokens : List TokenKind
case_tokens =
    Digits 9 ∷ colon ∷ Word words.Case ∷ Id i ∷ Word words.Of
    ∷ Digits 1 ∷ comma ∷ Digits 2 ∷ colon ∷ Id x ∷ assign ∷ Digits 1 ∷ semicolon
    ∷ Text a ∷ colon ∷ semicolon ∷ Word words.End ∷ []

-- 1, 2: x := 1
abbrev first_arm : Arm Statement
first_arm = record { constants = constant 5 1 ∷ constant 7 2 ∷ []; body = statements.Assign (record { name = named 9 x; selectors = [] }) 10 (number 11 1) }

-- 'a': with an empty statement, which stands at the `;` behind it
abbrev last_arm : Arm Statement
last_arm = record { constants = constants.Text (record { at = 13; characters = a }) ∷ []; body = statements.Empty 15 }

abbrev case_tree : Statement
case_tree = statements.Labelled (digits 0 9) (statements.Case 2 (variable 3 i) (first_arm ∷ last_arm ∷ []))

-- where one or two more openers may stand open
abbrev pub ElseExample : Type 0
ElseExample = (room : ℕ) → DerivesBy (statement (suc (suc room))) else_tokens else_tree

abbrev pub CaseExample : Type 0
CaseExample = (room : ℕ) → DerivesBy (statement (suc room)) case_tokens case_tree

-- no `if` without an `else` is followed by one
abbrev pub NoElseFollows : Type 0
NoElseFollows =
    (room at : ℕ) (condition : Expr) (body : Statement) (i j : Input) (more : List TokenKind)
    → statement room i (statements.If at condition body None) j
    → j.rest ≢ Word words.Else ∷ more

-- ---- types

abbrev pub type_named : ℕ → List ℕ → Denoter
type_named at name = denoters.Named (named at name)

-- packed record a, b: array [c, 1 .. 9] of c; case x: c of 1: (f: ^n); 2: (); end
abbrev type_tokens : List TokenKind
type_tokens =
    Word words.Packed ∷ Word words.Record
    ∷ Id a ∷ comma ∷ Id b ∷ colon ∷ Word words.Array ∷ left_bracket ∷ Id c ∷ comma ∷ Digits 1 ∷ dots ∷ Digits 9 ∷ right_bracket ∷ Word words.Of ∷ Id c ∷ semicolon
    ∷ Word words.Case ∷ Id x ∷ colon ∷ Id c ∷ Word words.Of
    ∷ Digits 1 ∷ colon ∷ left_paren ∷ Id f ∷ colon ∷ caret ∷ Id n ∷ right_paren ∷ semicolon
    ∷ Digits 2 ∷ colon ∷ left_paren ∷ right_paren ∷ semicolon
    ∷ Word words.End ∷ []

-- a, b: array [c, 1 .. 9] of c, where the array that has the second index type stands at the comma before it
abbrev fixed_part : Section Denoter
fixed_part = record {
  names = named 2 a ∷ named 4 b ∷ [];
  of = denoters.Array 6 false (record { at = 6; of = type_named 8 c } ∷ record { at = 9; of = denoters.Subrange (constant 10 1) (constant 12 9) } ∷ []) (type_named 15 c);
}

-- 1: (f: ^n)
abbrev first_variant : Variant Denoter
first_variant = record { constants = constant 22 1 ∷ []; fields = denoters.Fields (record { names = named 25 f ∷ []; of = denoters.Pointer 27 (named 28 n) } ∷ []) None }

-- 2: ()
abbrev last_variant : Variant Denoter
last_variant = record { constants = constant 31 2 ∷ []; fields = denoters.Fields [] None }

-- case x: c of ..
abbrev variant_part : VariantPart Denoter
variant_part = record { at = 17; tag = Some (named 18 x); of = named 20 c; variants = first_variant ∷ last_variant ∷ [] }

-- The record stands at `packed`.
abbrev type_tree : Denoter
type_tree = denoters.Record 0 true (denoters.Fields (fixed_part ∷ []) (Some variant_part))

-- where two more openers may stand open: `packed`, and in it `array` and `case`
abbrev pub TypeExample : Type 0
TypeExample = (room : ℕ) → DerivesBy (denoter (suc (suc room))) type_tokens type_tree

-- where no opener more may stand open, `packed` begins no type
abbrev pub NoRoomForPacked : Type 0
NoRoomForPacked = (tree : Denoter) (i j : Input) (more : List TokenKind) → i.rest ≡ Word words.Packed ∷ more → denoter zero i tree j → ⊥

-- ---- headings

-- function f(var a, b: c; function q(x: c): c): c
abbrev heading_tokens : List TokenKind
heading_tokens =
    Word words.Function ∷ Id f ∷ left_paren
    ∷ Word words.Var ∷ Id a ∷ comma ∷ Id b ∷ colon ∷ Id c ∷ semicolon
    ∷ Word words.Function ∷ Id q ∷ left_paren ∷ Id x ∷ colon ∷ Id c ∷ right_paren ∷ colon ∷ Id c
    ∷ right_paren ∷ colon ∷ Id c ∷ []

abbrev heading_tree : HeadingTree
heading_tree = record {
  at = 0;
  name = named 1 f;
  formals =
      sections.Variables 3 (named 4 a ∷ named 6 b ∷ []) (named 8 c)
      ∷ sections.Function 10 (named 11 q) (sections.Values (named 13 x ∷ []) (named 15 c) ∷ []) (named 18 c)
      ∷ [];
  kind = heading_kinds.Function (Some (named 21 c));
}

-- where two more openers may stand open
abbrev pub HeadingExample : Type 0
HeadingExample = (room : ℕ) → DerivesBy (heading (suc (suc room))) heading_tokens heading_tree

-- ---- programs

-- program p(f); const n = -1; procedure q; forward; procedure q; var x: c; begin end; begin q end.
abbrev pub program_tokens : List TokenKind
program_tokens =
    Word words.Program ∷ Id p ∷ left_paren ∷ Id f ∷ right_paren ∷ semicolon
    ∷ Word words.Const ∷ Id n ∷ equal ∷ minus ∷ Digits 1 ∷ semicolon
    ∷ Word words.Procedure ∷ Id q ∷ semicolon ∷ Id (codes "forward") ∷ semicolon
    ∷ Word words.Procedure ∷ Id q ∷ semicolon ∷ Word words.Var ∷ Id x ∷ colon ∷ Id c ∷ semicolon ∷ Word words.Begin ∷ Word words.End ∷ semicolon
    ∷ Word words.Begin ∷ Id q ∷ Word words.End ∷ dot ∷ []

-- The seven own tokens of q's block are counted from its `var` to its `end`.
abbrev inner_block : Block
inner_block = record {
  program = None;
  labels = [];
  constants = [];
  types = [];
  variables = record { names = named 1 x ∷ []; of = type_named 3 c } ∷ [];
  declarations = [];
  statements = Compound 5 (statements.Empty 6 ∷ []) 6;
  tokens = 7;
}

-- The other twenty-five are own tokens of the program's block: the `;` behind q's block goes on behind its heading's.
abbrev outer_block : Block
outer_block = record {
  program = Some (record { name = named 1 p; parameters = named 3 f ∷ [] });
  labels = [];
  constants = record { name = named 7 n; value = constants.Number (Some (record { at = 9; kind = signs.Minus })) (digits 10 1); semicolon = 11 } ∷ [];
  types = [];
  variables = [];
  declarations =
      record { heading = record { at = 12; name = named 13 q; formals = []; kind = heading_kinds.Procedure }; semicolon = 14; body = bodies.Forward 15 }
      ∷ record { heading = record { at = 17; name = named 18 q; formals = []; kind = heading_kinds.Procedure }; semicolon = 19; body = bodies.Block }
      ∷ [];
  statements = Compound 21 (call 22 q ∷ []) 23;
  tokens = 25;
}

abbrev pub program_tree : Tree
program_tree = roll-Tree (record { own = outer_block; inside = roll-Tree (record { own = inner_block; inside = [] }) ∷ [] })

-- within the limits of the language
abbrev pub ProgramExample : Type 0
ProgramExample = Derives standard program_tokens program_tree

-- A block in which no more blocks may stand has no declarations, `forward` ones neither.
abbrev pub NoneInTheDeepest : Type 0
NoneInTheDeepest =
    (limits : Limits) (heading : Option ProgramHeading) (found : Block × List Tree) (i j : Input)
    → block_with limits heading zero (nested_block limits zero) i found j
    → found.0.declarations ≡ []

-- ---- the first error

-- A text without tokens ends too early.
abbrev pub EndsEarly : Type 0
EndsEarly = IsFirstError standard [] 0 202

-- begin end.
abbrev pub WrongFirstToken : Type 0
WrongFirstToken = IsFirstError standard (Word words.Begin ∷ Word words.End ∷ dot ∷ []) 0 201

-- program p; procedure
abbrev pub declaring_tokens : List TokenKind
declaring_tokens = Word words.Program ∷ Id p ∷ semicolon ∷ Word words.Procedure ∷ []

-- the declaration word where no block may stand in the program's, where no declaration may stand, and where neither may
abbrev pub OneTooDeep : Type 0
OneTooDeep = IsFirstError (record { openers = 1; depth = 0; declarations = 1 }) declaring_tokens 3 203

abbrev pub OneTooMany : Type 0
OneTooMany = IsFirstError (record { openers = 1; depth = 1; declarations = 0 }) declaring_tokens 3 204

abbrev pub TooDeepAndTooMany : Type 0
TooDeepAndTooMany = IsFirstError (record { openers = 1; depth = 0; declarations = 0 }) declaring_tokens 3 203

-- program p; begin end. x
abbrev pub FollowsTheProgram : Type 0
FollowsTheProgram =
    IsFirstError
    (record { openers = 1; depth = 0; declarations = 0 })
    (Word words.Program ∷ Id p ∷ semicolon ∷ Word words.Begin ∷ Word words.End ∷ dot ∷ Id x ∷ [])
    6
    205
