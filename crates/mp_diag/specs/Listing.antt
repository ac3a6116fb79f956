-- The errors of a listing and its bytes.
use Rattle.std.specs.Prelude.{ℕ, List, [], ◌∷◌, ◌++◌, map, unwrap_or, codes, decimal}
use Rattle.std.specs.List.{flat_map}
use Rattle.mp_base.specs.Position.{position_of}
use Rattle.mp_ast.specs.declared.errors.LexError.{LexError}
use Rattle.mp_diag.specs.Codes.{text_of}
use Rattle.mp_diag.specs.declared.shown.Shown.{Shown}

-- an error of a text with these lines, at the place of its first byte
abbrev pub shown_error : List (List ℕ) → LexError → Shown
shown_error text error = record { at = position_of text error.start; code = error.code }

abbrev pub shown_errors : List (List ℕ) → List LexError → List Shown
shown_errors text errors = map (shown_error text) errors

-- the line of an error: `line:column code text`
abbrev pub error_line : Shown → List ℕ
error_line error =
    decimal error.at.line ++ (codes ":" ++ (decimal error.at.column ++ (codes " " ++ (decimal error.code ++ (codes " "
    ++ (unwrap_or (text_of error.code) [] ++ codes "\n"))))))

-- The listing of these errors: the line of each, in their order, or the line `accepted` where there is none.
abbrev pub listing : List Shown → List ℕ
listing [] = codes "accepted\n"
listing (error ∷ errors) = flat_map error_line (error ∷ errors)
