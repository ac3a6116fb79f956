-- Where the tokens of a text depart from those of the empty program: the loop of the code again, over lists. No law says
-- what it is; it goes with the listing of this stage, which cites it.
use Rattle.std.specs.Prelude.{ℕ, Bool, true, false, List, [], ◌∷◌, Option, Some, None, if◌then◌else◌}
use Rattle.mp_ast.specs.declared.tokens.Token.{Token}
use Rattle.mp_ast.specs.declared.tokens.TokenKind.{TokenKind}
use Rattle.mp_ast.specs.declared.tokens.TokenKind.TheVariants as kind
use Rattle.mp_ast.specs.declared.words.WordSymbol.TheVariants as word
use Rattle.mp_ast.specs.declared.symbols.Symbol.TheVariants as symbol
use Rattle.mp_session.specs.declared.departure.ProgramPart.{ProgramPart}
use Rattle.mp_session.specs.declared.departure.ProgramPart.TheVariants as part

-- the token `program`, an identifier, `;`, `begin`, `end` and `.`
abbrev pub empty_program : List ProgramPart
empty_program = part.Program ∷ part.Identifier ∷ part.Semicolon ∷ part.Begin ∷ part.End ∷ part.Dot ∷ []

-- whether a token of this kind is this part
abbrev pub is_of : ProgramPart → TokenKind → Bool
is_of part.Program (kind.Word word.Program) = true
is_of part.Identifier (kind.Id name) = true
is_of part.Semicolon (kind.Symbol symbol.Semicolon) = true
is_of part.Begin (kind.Word word.Begin) = true
is_of part.End (kind.Word word.End) = true
is_of part.Dot (kind.Symbol symbol.Dot) = true
is_of p k = false

-- The first byte at which tokens depart from these parts: a token that is not the part in its place, a token that
-- is one too many, or the text's end where a part is missing.
abbrev pub departure : List ProgramPart → List Token → ℕ → Option ℕ
departure [] [] end = None
departure [] (token ∷ tokens) end = Some token.start
departure (part ∷ parts) [] end = Some end
departure (part ∷ parts) (token ∷ tokens) end = if is_of part token.kind then departure parts tokens end else Some token.start
