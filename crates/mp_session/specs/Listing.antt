-- The listing of a text: what can be said of it at this stage, where its tokens and its grammar are known.
use Rattle.std.specs.Prelude.{ℕ, List, [], ◌∷◌, ◌++◌, length, map, slice_index_or, Option, None, Some, codes, decimal}
use Rattle.mp_base.specs.declared.place.At.{At}
use Rattle.mp_base.specs.Text.{bytes_of}
use Rattle.mp_base.specs.Position.{position_of}
use Rattle.mp_ast.specs.declared.tokens.Token.{Token}
use Rattle.mp_ast.specs.declared.errors.LexError.{LexError}
use Rattle.mp_ast.specs.Programs.{kinds_of}
use Rattle.mp_lex.specs.Lexed.{lexical_tokens, lexical_errors}
use Rattle.mp_parse.specs.Errors.{SyntaxError, first_error}
use Rattle.mp_diag.specs.declared.shown.Shown.{Shown}
use Rattle.mp_diag.specs.Listing.{listing, shown_errors}
use Rattle.mp_session.specs.Departure.{departure, empty_program}

-- the line `not built at line:column`
abbrev pub not_built : At → List ℕ
not_built at = codes "not built at " ++ (decimal at.line ++ (codes ":" ++ (decimal at.column ++ codes "\n")))

-- where the tokens are those of the empty program, and where they are not
abbrev pub built_or_not : List (List ℕ) → Option ℕ → List ℕ
built_or_not text None = listing []
built_or_not text (Some byte) = not_built (position_of text byte)

-- the first byte of the token with this index; the end where there is no such token
abbrev pub start_at : List Token → ℕ → ℕ → ℕ
start_at tokens index end = slice_index_or (map (λ token. token.start) tokens) index end

-- a syntax error of a text with these tokens, at the place of its token, or of the end of the text
abbrev pub shown_syntax : List (List ℕ) → List Token → SyntaxError → Shown
shown_syntax text tokens error = record { at = position_of text (start_at tokens error.token (length (bytes_of text))); code = error.code }

-- the listing of a text with these tokens and this first syntax error, or none
abbrev pub parsed_listing : List (List ℕ) → List Token → Option SyntaxError → List ℕ
parsed_listing text tokens None = built_or_not text (departure empty_program tokens (length (bytes_of text)))
parsed_listing text tokens (Some error) = listing (shown_syntax text tokens error ∷ [])

-- the listing of a text with these tokens and lexical errors
abbrev pub lexed_listing : List (List ℕ) → List Token → List LexError → List ℕ
lexed_listing text tokens [] = parsed_listing text tokens (first_error (kinds_of tokens))
lexed_listing text tokens (error ∷ errors) = listing (shown_errors text (error ∷ errors))

-- The listing of a text, a list of lines: its lexical errors; where there is none, its first syntax error; where it has
-- neither, `accepted` for the empty program and the first departure from it for any other.
unfoldable pub text_listing : List (List ℕ) → List ℕ
text_listing text = lexed_listing text (lexical_tokens (bytes_of text)) (lexical_errors (bytes_of text))
