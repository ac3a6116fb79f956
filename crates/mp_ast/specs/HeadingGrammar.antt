-- Headings of procedures and functions (ISO 7185, 6.6).
use Rattle.std.specs.Prelude.{ℕ, zero, suc, List, []}
use Rattle.mp_ast.specs.declared.tokens.TokenKind.TheVariants.{Symbol}
use Rattle.mp_ast.specs.declared.words.WordSymbol.TheVariants as w
use Rattle.mp_ast.specs.declared.symbols.Symbol.TheVariants as s
use Rattle.mp_ast.specs.declared.leaves.Identifier.{Identifier}
use Rattle.mp_ast.specs.declared.headings.FormalSection.{FormalSection}
use Rattle.mp_ast.specs.declared.headings.FormalSection.TheVariants as f
use Rattle.mp_ast.specs.declared.headings.HeadingKind.TheVariants as kind
use Rattle.mp_ast.specs.declared.headings.HeadingTree.{HeadingTree}
use Rattle.mp_ast.specs.Rules.{Rule, ◌>>=◌, ◌>>◌, ◌<$>◌, ◌<|>◌, gives, none, optional, separated, word, symbol, opener}
use Rattle.mp_ast.specs.LeafGrammar.{identifier}

-- ":" id
abbrev pub result_type : Rule Identifier
result_type = symbol s.Colon >> identifier

-- id {"," id} ":" id
abbrev pub value_parameters : Rule FormalSection
value_parameters = do
  names ← separated (symbol s.Comma) identifier
  f.Values names <$> result_type

-- "var" id {"," id} ":" id
abbrev pub variable_parameters : Rule FormalSection
variable_parameters = do
  at ← word w.Var
  names ← separated (symbol s.Comma) identifier
  f.Variables at names <$> result_type

-- Of a procedural or functional parameter, these are its own parameters, if there are any.
module _ (formals : Rule (List FormalSection)) where
  -- "procedure" id [formals]
  abbrev pub procedure_parameter : Rule FormalSection
  procedure_parameter = do
    at ← word w.Procedure
    name ← identifier
    own ← formals <|> gives []
    gives (f.Procedure at name own)

  -- "function" id [formals] ":" id
  abbrev pub function_parameter : Rule FormalSection
  function_parameter = do
    at ← word w.Function
    name ← identifier
    own ← formals <|> gives []
    f.Function at name own <$> result_type

  -- formal = ["var"] id {"," id} ":" id | "procedure" id [formals] | "function" id [formals] ":" id
  abbrev pub formal : Rule FormalSection
  formal = value_parameters <|> variable_parameters <|> procedure_parameter <|> function_parameter

-- formals = "(" formal {";" formal} ")"
abbrev pub formals_with : ℕ → Rule (List FormalSection) → Rule (List FormalSection)
formals_with room behind = do
  opener room (Symbol s.LeftParen)
  sections ← separated (symbol s.Semicolon) (formal behind)
  symbol s.RightParen
  gives sections

unfoldable pub formals_behind : ℕ → Rule (List FormalSection)
formals_behind zero = none
formals_behind (suc room) = formals_with room (formals_behind room)

-- formal parameters, where so many more openers may stand open
abbrev pub formals : ℕ → Rule (List FormalSection)
formals room = formals_with room (formals_behind room)

-- "procedure" id [formals]
abbrev pub procedure_heading : ℕ → Rule HeadingTree
procedure_heading room = do
  at ← word w.Procedure
  name ← identifier
  sections ← formals room <|> gives []
  gives (record { at = at; name = name; formals = sections; kind = kind.Procedure })

-- "function" id [formals] [":" id]
abbrev pub function_heading : ℕ → Rule HeadingTree
function_heading room = do
  at ← word w.Function
  name ← identifier
  sections ← formals room <|> gives []
  result ← optional result_type
  gives (record { at = at; name = name; formals = sections; kind = kind.Function result })

abbrev pub heading : ℕ → Rule HeadingTree
heading room = procedure_heading room <|> function_heading room
