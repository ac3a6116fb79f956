-- Each operator, and each production that stands in no list of `specs/Examples`, once: a short list of tokens, and its tree.
use Rattle.std.specs.Prelude.{ℕ, suc, true, false, List, [], ◌∷◌, Some, None}
use Rattle.mp_ast.specs.declared.tokens.TokenKind.{TokenKind}
use Rattle.mp_ast.specs.declared.tokens.TokenKind.TheVariants.{Id, Number as Digits, Text, Word}
use Rattle.mp_ast.specs.declared.words.WordSymbol.TheVariants as words
use Rattle.mp_ast.specs.declared.leaves.SignKind.TheVariants as signs
use Rattle.mp_ast.specs.declared.leaves.Constant.TheVariants as constants
use Rattle.mp_ast.specs.declared.expressions.Operator.{Operator}
use Rattle.mp_ast.specs.declared.expressions.Access.{Access}
use Rattle.mp_ast.specs.declared.expressions.Actual.{Actual}
use Rattle.mp_ast.specs.declared.expressions.Operation.{Operation}
use Rattle.mp_ast.specs.declared.expressions.Expr.{Expr}
use Rattle.mp_ast.specs.declared.expressions.Expr.TheVariants as expressions
use Rattle.mp_ast.specs.declared.statements.Direction.{Direction}
use Rattle.mp_ast.specs.declared.statements.Direction.TheVariants as directions
use Rattle.mp_ast.specs.declared.statements.Statement.{Statement}
use Rattle.mp_ast.specs.declared.statements.Statement.TheVariants as statements
use Rattle.mp_ast.specs.declared.types.Denoter.{Denoter}
use Rattle.mp_ast.specs.declared.types.Denoter.TheVariants as denoters
use Rattle.mp_ast.specs.declared.headings.FormalSection.TheVariants as sections
use Rattle.mp_ast.specs.declared.headings.HeadingKind.TheVariants as heading_kinds
use Rattle.mp_ast.specs.declared.headings.HeadingTree.{HeadingTree}
use Rattle.mp_ast.specs.declared.blocks.Block.{Block}
use Rattle.mp_ast.specs.declared.blocks.StatementPart.TheVariants.{Compound}
use Rattle.mp_ast.specs.declared.blocks.Tree.{Tree, roll-Tree}
use Rattle.mp_ast.specs.ExpressionGrammar.{expression}
use Rattle.mp_ast.specs.StatementGrammar.{statement}
use Rattle.mp_ast.specs.TypeGrammar.{denoter}
use Rattle.mp_ast.specs.HeadingGrammar.{heading}
use Rattle.mp_ast.specs.Programs.{Derives}
use Rattle.mp_ast.specs.Examples.{DerivesBy, a, b, c, f, i, n, p, q, plus, minus, equal, left_bracket, right_bracket}
use Rattle.mp_ast.specs.Examples.{left_paren, right_paren, dot, dots, comma, colon, assign, semicolon, named, digits, variable}
use Rattle.mp_ast.specs.Examples.{constant, call, type_named}

-- ---- operators: `a`, the operator, `b`

abbrev before_b : Operator → Operation Expr
before_b o = record { at = 1; operator = o; operand = variable 2 b }

abbrev pub Relates : TokenKind → Operator → Type 0
Relates k o = (room : ℕ) → DerivesBy (expression room) (Id a ∷ k ∷ Id b ∷ []) (expressions.Relation (variable 0 a) (before_b o))

abbrev pub Adds : TokenKind → Operator → Type 0
Adds k o = (room : ℕ) → DerivesBy (expression room) (Id a ∷ k ∷ Id b ∷ []) (expressions.Sum None (variable 0 a) (before_b o ∷ []))

abbrev pub Multiplies : TokenKind → Operator → Type 0
Multiplies k o = (room : ℕ) → DerivesBy (expression room) (Id a ∷ k ∷ Id b ∷ []) (expressions.Product (variable 0 a) (before_b o ∷ []))

-- ---- expressions, where one more opener may stand open

abbrev IsExpression : List TokenKind → Expr → Type 0
IsExpression kinds tree = (room : ℕ) → DerivesBy (expression (suc room)) kinds tree

-- 'a'
abbrev pub StringExample : Type 0
StringExample = IsExpression (Text a ∷ []) (expressions.Text (record { at = 0; characters = a }))

-- nil
abbrev pub NilExample : Type 0
NilExample = IsExpression (Word words.Nil ∷ []) (expressions.Nil 0)

-- + a
abbrev pub SignExample : Type 0
SignExample = IsExpression (plus ∷ Id a ∷ []) (expressions.Sum (Some (record { at = 0; kind = signs.Plus })) (variable 1 a) [])

-- not a
abbrev pub NotExample : Type 0
NotExample = IsExpression (Word words.Not ∷ Id a ∷ []) (expressions.Not 0 (variable 1 a))

-- []
abbrev pub EmptySetExample : Type 0
EmptySetExample = IsExpression (left_bracket ∷ right_bracket ∷ []) (expressions.Set 0 [])

-- (a, b: c), where `a` stands at 2
abbrev actual_tokens : List TokenKind
actual_tokens = left_paren ∷ Id a ∷ comma ∷ Id b ∷ colon ∷ Id c ∷ right_paren ∷ []

abbrev actuals : List (Actual Expr)
actuals = record { value = variable 2 a; width = None } ∷ record { value = variable 4 b; width = Some (record { at = 5; value = variable 6 c }) } ∷ []

-- f(a, b: c)
abbrev pub FunctionExample : Type 0
FunctionExample = IsExpression (Id f ∷ actual_tokens) (expressions.Call (named 0 f) actuals)

-- ---- statements, where one more opener may stand open

abbrev IsStatement : List TokenKind → Statement → Type 0
IsStatement kinds tree = (room : ℕ) → DerivesBy (statement (suc room)) kinds tree

-- p(a, b: c)
abbrev pub ProcedureExample : Type 0
ProcedureExample = IsStatement (Id p ∷ actual_tokens) (statements.Call (named 0 p) actuals)

-- goto 9
abbrev pub GotoExample : Type 0
GotoExample = IsStatement (Word words.Goto ∷ Digits 9 ∷ []) (statements.Goto 0 (digits 1 9))

-- begin p; q end
abbrev pub CompoundExample : Type 0
CompoundExample = IsStatement (Word words.Begin ∷ Id p ∷ semicolon ∷ Id q ∷ Word words.End ∷ []) (statements.Compound 0 (call 1 p ∷ call 3 q ∷ []))

-- while a do p
abbrev pub WhileExample : Type 0
WhileExample = IsStatement (Word words.While ∷ Id a ∷ Word words.Do ∷ Id p ∷ []) (statements.While 0 (variable 1 a) (call 3 p))

-- repeat p; q until a
abbrev pub RepeatExample : Type 0
RepeatExample =
    IsStatement (Word words.Repeat ∷ Id p ∷ semicolon ∷ Id q ∷ Word words.Until ∷ Id a ∷ []) (statements.Repeat 0 (call 1 p ∷ call 3 q ∷ []) (variable 5 a))

-- for i := a to b do p, and the same with `downto`
abbrev For : TokenKind → Direction → Type 0
For k direction =
    IsStatement
    (Word words.For ∷ Id i ∷ assign ∷ Id a ∷ k ∷ Id b ∷ Word words.Do ∷ Id p ∷ [])
    (statements.For 0 (record { variable = named 1 i; assign = 2; first = variable 3 a; direction = direction; last = variable 5 b }) (call 7 p))

abbrev pub ToExample : Type 0
ToExample = For (Word words.To) directions.To

abbrev pub DowntoExample : Type 0
DowntoExample = For (Word words.Downto) directions.Downto

abbrev name_access : ℕ → List ℕ → Access Expr
name_access at name = record { name = named at name; selectors = [] }

-- with a, b do p
abbrev pub WithExample : Type 0
WithExample =
    IsStatement (Word words.With ∷ Id a ∷ comma ∷ Id b ∷ Word words.Do ∷ Id p ∷ []) (statements.With 0 (name_access 1 a ∷ name_access 3 b ∷ []) (call 5 p))

-- ---- types, where two more openers may stand open

abbrev IsType : List TokenKind → Denoter → Type 0
IsType kinds tree = (room : ℕ) → DerivesBy (denoter (suc (suc room))) kinds tree

-- (a, b)
abbrev pub EnumerationExample : Type 0
EnumerationExample = IsType (left_paren ∷ Id a ∷ comma ∷ Id b ∷ right_paren ∷ []) (denoters.Enumeration 0 (named 1 a ∷ named 3 b ∷ []))

-- -1 .. +n
abbrev pub SignedSubrangeExample : Type 0
SignedSubrangeExample =
    IsType
    (minus ∷ Digits 1 ∷ dots ∷ plus ∷ Id n ∷ [])
    (denoters.Subrange (constants.Number (Some (record { at = 0; kind = signs.Minus })) (digits 1 1)) (constants.Name (Some (record { at = 3; kind = signs.Plus })) (named 4 n)))

-- set of c, and a packed one
abbrev pub SetExample : Type 0
SetExample = IsType (Word words.Set ∷ Word words.Of ∷ Id c ∷ []) (denoters.Set 0 false (type_named 2 c))

abbrev pub PackedSetExample : Type 0
PackedSetExample = IsType (Word words.Packed ∷ Word words.Set ∷ Word words.Of ∷ Id c ∷ []) (denoters.Set 0 true (type_named 3 c))

-- file of c, and a packed one: it stands at `packed`, and has the ordinal of `file` as well
abbrev pub FileExample : Type 0
FileExample = IsType (Word words.File ∷ Word words.Of ∷ Id c ∷ []) (denoters.File 0 0 (type_named 2 c))

abbrev pub PackedFileExample : Type 0
PackedFileExample = IsType (Word words.Packed ∷ Word words.File ∷ Word words.Of ∷ Id c ∷ []) (denoters.File 0 1 (type_named 3 c))

-- packed array [a] of b
abbrev pub PackedArrayExample : Type 0
PackedArrayExample =
    IsType
    (Word words.Packed ∷ Word words.Array ∷ left_bracket ∷ Id a ∷ right_bracket ∷ Word words.Of ∷ Id b ∷ [])
    (denoters.Array 0 true (record { at = 0; of = type_named 3 a } ∷ []) (type_named 6 b))

-- record end
abbrev pub EmptyRecordExample : Type 0
EmptyRecordExample = IsType (Word words.Record ∷ Word words.End ∷ []) (denoters.Record 0 false (denoters.Fields [] None))

-- record case c of 1: () end
abbrev pub NoTagExample : Type 0
NoTagExample =
    IsType
    (Word words.Record ∷ Word words.Case ∷ Id c ∷ Word words.Of ∷ Digits 1 ∷ colon ∷ left_paren ∷ right_paren ∷ Word words.End ∷ [])
    (denoters.Record 0 false
    (denoters.Fields [] (Some (record { at = 1; tag = None; of = named 2 c; variants = record { constants = constant 4 1 ∷ []; fields = denoters.Fields [] None } ∷ [] }))))

-- ---- headings, where one more opener may stand open

abbrev IsHeading : List TokenKind → HeadingTree → Type 0
IsHeading kinds tree = (room : ℕ) → DerivesBy (heading (suc room)) kinds tree

-- procedure p(procedure q)
abbrev pub ProceduralExample : Type 0
ProceduralExample =
    IsHeading
    (Word words.Procedure ∷ Id p ∷ left_paren ∷ Word words.Procedure ∷ Id q ∷ right_paren ∷ [])
    (record { at = 0; name = named 1 p; formals = sections.Procedure 3 (named 4 q) [] ∷ []; kind = heading_kinds.Procedure })

-- function f, whose result type an earlier heading names
abbrev pub NoResultExample : Type 0
NoResultExample = IsHeading (Word words.Function ∷ Id f ∷ []) (record { at = 0; name = named 1 f; formals = []; kind = heading_kinds.Function None })

-- ---- parts of a block

-- program p; label 1, 2; type a = b; begin end.
abbrev pub parts_tokens : List TokenKind
parts_tokens =
    Word words.Program ∷ Id p ∷ semicolon
    ∷ Word words.Label ∷ Digits 1 ∷ comma ∷ Digits 2 ∷ semicolon
    ∷ Word words.«Type» ∷ Id a ∷ equal ∷ Id b ∷ semicolon
    ∷ Word words.Begin ∷ Word words.End ∷ dot ∷ []

abbrev parts_block : Block
parts_block = record {
  program = Some (record { name = named 1 p; parameters = [] });
  labels = digits 4 1 ∷ digits 6 2 ∷ [];
  constants = [];
  types = record { name = named 9 a; of = type_named 11 b; semicolon = 12 } ∷ [];
  variables = [];
  declarations = [];
  statements = Compound 13 (statements.Empty 14 ∷ []) 14;
  tokens = 16;
}

abbrev pub parts_tree : Tree
parts_tree = roll-Tree (record { own = parts_block; inside = [] })

-- where one opener may stand open
abbrev pub PartsExample : Type 0
PartsExample = (openers depth declarations : ℕ) → Derives (record { openers = suc openers; depth = depth; declarations = declarations }) parts_tokens parts_tree
