-- The errors of lists of tokens that are no program.
use Rattle.std.specs.Prelude.{◌≡◌, ℕ, zero, suc, ◌-◌, List, length, Option, Some, None, Ok, Err}
use Rattle.mp_ast.specs.declared.tokens.TokenKind.{TokenKind}
use Rattle.mp_ast.specs.declared.blocks.Tree.{Tree}
use Rattle.mp_ast.specs.Programs.{HasTree, standard, start_of}
use Rattle.mp_ast.specs.FirstError.{HasCode, IsFirstError}
use Rattle.mp_cursor.specs.declared.failure.Failure.{Failure}
use Rattle.mp_cursor.specs.declared.failure.Failure.TheVariants as failure
use Rattle.mp_cursor.specs.Parsers.{Outcome}
use Rattle.mp_parse.specs.Blocks.{program}
use Rattle.mp_parse.specs.declared.errors.ParseError.{ParseError}
use Rattle.mp_parse.specs.declared.errors.ParseError.TheVariants as error

-- the error of a failure in a list of so many tokens
abbrev pub error_of : Failure → ℕ → ParseError
error_of failure.Memory count = error.Memory
error_of (failure.Wrong zero) count = error.Syntax count 202
error_of (failure.Wrong (suc left)) count = error.Syntax (count - suc left) 201
error_of (failure.TooDeep left) count = error.Syntax (count - left) 203
error_of (failure.TooMany left) count = error.Syntax (count - left) 204

-- an error names the first error of the tokens, with its code
abbrev pub NamesFirstError : List TokenKind → ParseError → Type 0
NamesFirstError kinds error.Memory = Unit {0}
NamesFirstError kinds (error.Syntax token code) = IsFirstError standard kinds token code

-- an error has this code exactly where its token has it
abbrev pub HasCodeExactly : ℕ → List TokenKind → ParseError → Type 0
HasCodeExactly code kinds error.Memory = Unit {0}
HasCodeExactly code kinds (error.Syntax token given) = (given ≡ code → HasCode standard kinds token code) × (HasCode standard kinds token code → given ≡ code)

-- ---- the first error, as the parser finds it

-- a syntax error
pub record SyntaxError : Type 0 where
  -- the index of its token; the number of tokens stands for the end
  pub token : ℕ
  pub code : ℕ

-- the syntax error that an error tells
abbrev pub told : ParseError → Option SyntaxError
told error.Memory = None
told (error.Syntax token code) = Some (record { token = token; code = code })

-- where so many of the tokens are left behind a program
abbrev pub behind_program : ℕ → ℕ → Option SyntaxError
behind_program zero count = None
behind_program (suc left) count = Some (record { token = count - suc left; code = 205 })

abbrev pub first_error_of : Outcome Tree → ℕ → Option SyntaxError
first_error_of (Ok found) count = behind_program (length found.1.rest) count
first_error_of (Err failure) count = told (error_of failure count)

-- the first error of a list of tokens, as the parser finds it; None where the list is a program
unfoldable pub first_error : List TokenKind → Option SyntaxError
first_error kinds = first_error_of (program standard (start_of kinds)) (length kinds)

-- it is the first error of the list, and the list has a tree where there is none
abbrev pub IsFound : List TokenKind → Option SyntaxError → Type 0
IsFound kinds None = HasTree standard kinds
IsFound kinds (Some error) = IsFirstError standard kinds error.token error.code
