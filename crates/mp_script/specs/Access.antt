-- The form of an access, by which a command names a variable.
use Rattle.std.specs.Prelude.{◌≡◌, ◌↔◌, ℕ, Bool, true, false, ◌&&◌, List, [], ◌∷◌, ◌++◌, IsTrue, length, map, ◌==◌}
use Rattle.mp_ast.specs.declared.symbols.Symbol.{Symbol}
use Rattle.mp_ast.specs.declared.symbols.Symbol.TheVariants as symbol
use Rattle.mp_ast.specs.declared.tokens.Token.{Token}
use Rattle.mp_ast.specs.declared.tokens.TokenKind.{TokenKind}
use Rattle.mp_ast.specs.declared.tokens.TokenKind.TheVariants as kind
use Rattle.mp_lex.specs.Lexed.{lexical_errors, lexical_tokens}
use Rattle.mp_script.specs.declared.access.AccessPart.{AccessPart}
use Rattle.mp_script.specs.declared.access.AccessPart.TheVariants as part
use Rattle.mp_script.specs.declared.access.Stage.{Stage}
use Rattle.mp_script.specs.declared.access.Stage.TheVariants as stage

abbrev pub part_of_symbol : Symbol → AccessPart
part_of_symbol symbol.Plus = part.Sign
part_of_symbol symbol.Minus = part.Sign
part_of_symbol symbol.Star = part.Other
part_of_symbol symbol.Equal = part.Other
part_of_symbol symbol.Less = part.Other
part_of_symbol symbol.Greater = part.Other
part_of_symbol symbol.LeftBracket = part.Open
part_of_symbol symbol.RightBracket = part.Close
part_of_symbol symbol.Dot = part.Dot
part_of_symbol symbol.Comma = part.Comma
part_of_symbol symbol.Colon = part.Other
part_of_symbol symbol.Semicolon = part.Other
part_of_symbol symbol.Caret = part.Caret
part_of_symbol symbol.LeftParen = part.Other
part_of_symbol symbol.RightParen = part.Other
part_of_symbol symbol.NotEqual = part.Other
part_of_symbol symbol.LessEqual = part.Other
part_of_symbol symbol.GreaterEqual = part.Other
part_of_symbol symbol.Assign = part.Other
part_of_symbol symbol.DotDot = part.Other

-- a character-string of one element is a char constant (ISO 7185, 6.1.7)
abbrev pub part_of_text : List ℕ → AccessPart
part_of_text [] = part.Other
part_of_text (b ∷ []) = part.Char
part_of_text (b ∷ c ∷ bytes) = part.Other

-- what a token is in an access
abbrev pub part_of : TokenKind → AccessPart
part_of (kind.Id name) = part.Name
part_of (kind.Number n) = part.Number
part_of (kind.Text bytes) = part_of_text bytes
part_of (kind.Word word) = part.Other
part_of (kind.Symbol s) = part_of_symbol s

abbrev pub parts_of : List Token → List AccessPart
parts_of tokens = map (λ (token : Token). part_of token.kind) tokens

-- An index: a number with an optional sign, a char constant, or a constant's name.
pub data Index : Type 0 where
  Number : Index
  Signed : Index
  Char : Index
  Name : Index

-- A selector: indexes in brackets, at least one; a field; or what a pointer points to.
pub data Selector : Type 0 where
  Indexed : Index → List Index → Selector
  Field : Selector
  Pointed : Selector

abbrev pub parts_of_index : Index → List AccessPart
parts_of_index Number = part.Number ∷ []
parts_of_index Signed = part.Sign ∷ part.Number ∷ []
parts_of_index Char = part.Char ∷ []
parts_of_index Name = part.Name ∷ []

-- further indexes, each behind a comma
unfoldable pub parts_of_more : List Index → List AccessPart
parts_of_more [] = []
parts_of_more (index ∷ more) = part.Comma ∷ (parts_of_index index ++ parts_of_more more)

abbrev pub parts_of_selector : Selector → List AccessPart
parts_of_selector (Indexed index more) = part.Open ∷ (parts_of_index index ++ (parts_of_more more ++ (part.Close ∷ [])))
parts_of_selector Field = part.Dot ∷ part.Name ∷ []
parts_of_selector Pointed = part.Caret ∷ []

unfoldable pub parts_of_selectors : List Selector → List AccessPart
parts_of_selectors [] = []
parts_of_selectors (selector ∷ more) = parts_of_selector selector ++ parts_of_selectors more

-- The form of an access: a name, and then selectors.
pub record IsAccess (parts : List AccessPart) : Type 0 where
  pub selectors : List Selector
  pub all : parts ≡ part.Name ∷ parts_of_selectors selectors

-- what may come behind this part, by what might have come in its place
abbrev pub after : Stage → AccessPart → Stage
after stage.Start part.Name = stage.Selectors
after stage.Start p = stage.Wrong
after stage.Selectors part.Dot = stage.Field
after stage.Selectors part.Caret = stage.Selectors
after stage.Selectors part.Open = stage.Index
after stage.Selectors p = stage.Wrong
after stage.Field part.Name = stage.Selectors
after stage.Field p = stage.Wrong
after stage.Index part.Name = stage.Close
after stage.Index part.Number = stage.Close
after stage.Index part.Char = stage.Close
after stage.Index part.Sign = stage.Number
after stage.Index p = stage.Wrong
after stage.Number part.Number = stage.Close
after stage.Number p = stage.Wrong
after stage.Close part.Comma = stage.Index
after stage.Close part.Close = stage.Selectors
after stage.Close p = stage.Wrong
after stage.Wrong p = stage.Wrong

-- an access may end here
abbrev pub is_complete : Stage → Bool
is_complete stage.Start = false
is_complete stage.Selectors = true
is_complete stage.Field = false
is_complete stage.Index = false
is_complete stage.Number = false
is_complete stage.Close = false
is_complete stage.Wrong = false

-- these parts complete an access of which so much has come
unfoldable pub completes : Stage → List AccessPart → Bool
completes s [] = is_complete s
completes s (p ∷ parts) = completes (after s p) parts

-- the test of an access's form; `IsAccess` says what it tests
abbrev pub have_form : List AccessPart → Bool
have_form parts = completes stage.Start parts

abbrev pub IsFormTested : List AccessPart → Type 0
IsFormTested parts = IsTrue (have_form parts) ↔ IsAccess parts

-- bytes that are an access: they have no lexical error, and their tokens have the form of an access
unfoldable pub is_access : List ℕ → Bool
is_access bytes = length (lexical_errors bytes) == 0 && have_form (parts_of (lexical_tokens bytes))
