-- Parsers of headings of procedures and functions, which no statement outside names: `laws` says by the grammar what
-- they read.
use Rattle.std.specs.Prelude.{ℕ, zero, suc, List, [], ◌∷◌, Option}
use Rattle.mp_ast.specs.declared.words.WordSymbol.TheVariants as w
use Rattle.mp_ast.specs.declared.symbols.Symbol.TheVariants as s
use Rattle.mp_ast.specs.declared.leaves.Identifier.{Identifier}
use Rattle.mp_ast.specs.declared.headings.FormalSection.{FormalSection}
use Rattle.mp_ast.specs.declared.headings.FormalSection.TheVariants as f
use Rattle.mp_ast.specs.declared.headings.HeadingKind.TheVariants as kind
use Rattle.mp_ast.specs.declared.headings.HeadingTree.{HeadingTree}
use Rattle.mp_cursor.specs.declared.next.Next.TheVariants.{Word, Symbol}
use Rattle.mp_cursor.specs.Nexts.{Nexts, is, but}
use Rattle.mp_cursor.specs.Parsers.{Parser, ◌>>=◌, ◌>>◌, ◌<$>◌, pure, refuse, branch, expect, opening, identifier, repeated, and_one, optional}
use Rattle.mp_cursor.specs.Leaves.{identifiers}

unfoldable pub result_type : Parser Identifier
result_type = expect (Symbol s.Colon) >> identifier

unfoldable pub value_parameters : Parser FormalSection
value_parameters = do
  names ← identifiers
  f.Values names <$> result_type

unfoldable pub variable_parameters : Parser FormalSection
variable_parameters = do
  at ← expect (Word w.Var)
  names ← identifiers
  f.Variables at names <$> result_type

-- formal parameters, if there are any
abbrev pub own_formals : Parser (List FormalSection) → Parser (List FormalSection)
own_formals formals = branch (is (Symbol s.LeftParen)) formals (pure [])

-- Of a procedural or functional parameter, these are its own parameters, if there are any.
module _ (formals : Parser (List FormalSection)) where
  unfoldable pub procedure_parameter : Parser FormalSection
  procedure_parameter = do
    at ← expect (Word w.Procedure)
    name ← identifier
    own ← own_formals formals
    pure (f.Procedure at name own)

  unfoldable pub function_parameter : Parser FormalSection
  function_parameter = do
    at ← expect (Word w.Function)
    name ← identifier
    own ← own_formals formals
    f.Function at name own <$> result_type

  unfoldable pub formal : Parser FormalSection
  formal =
      branch (is (Word w.Var)) variable_parameters
      (branch (is (Word w.Procedure)) procedure_parameter (branch (is (Word w.Function)) function_parameter value_parameters))

  unfoldable pub further_formal : List FormalSection → Parser (List FormalSection)
  further_formal = and_one (expect (Symbol s.Semicolon) >> formal)

  abbrev pub further_formals : List FormalSection → Parser (List FormalSection)
  further_formals = repeated (is (Symbol s.Semicolon)) further_formal

  unfoldable pub formal_sections : Parser (List FormalSection)
  formal_sections = do
    first ← formal
    further_formals (first ∷ [])

abbrev pub in_parentheses : ℕ → Parser (List FormalSection) → Parser (List FormalSection)
in_parentheses room sections = do
  opening room (Symbol s.LeftParen)
  found ← sections
  expect (Symbol s.RightParen)
  pure found

unfoldable pub formals_with : ℕ → Parser (List FormalSection) → Parser (List FormalSection)
formals_with room behind = in_parentheses room (formal_sections behind)

unfoldable pub formals_behind : ℕ → Parser (List FormalSection)
formals_behind zero = refuse
formals_behind (suc room) = formals_with room (formals_behind room)

-- ---- the parsers, where so many more openers may stand open

abbrev pub formals : ℕ → Parser (List FormalSection)
formals room = formals_with room (formals_behind room)

unfoldable pub procedure_heading : ℕ → Parser HeadingTree
procedure_heading room = do
  at ← expect (Word w.Procedure)
  name ← identifier
  sections ← own_formals (formals room)
  pure (record { at = at; name = name; formals = sections; kind = kind.Procedure })

unfoldable pub optional_result : Parser (Option Identifier)
optional_result = optional (is (Symbol s.Colon)) result_type

unfoldable pub function_heading : ℕ → Parser HeadingTree
function_heading room = do
  at ← expect (Word w.Function)
  name ← identifier
  sections ← own_formals (formals room)
  result ← optional_result
  pure (record { at = at; name = name; formals = sections; kind = kind.Function result })

unfoldable pub heading : ℕ → Parser HeadingTree
heading room = branch (is (Word w.Procedure)) (procedure_heading room) (function_heading room)

-- ---- what may follow

-- the tokens that may follow a heading: a parenthesis, or a colon, goes on with one
abbrev pub after_heading : Nexts
after_heading = but (Symbol s.LeftParen ∷ Symbol s.Colon ∷ [])
