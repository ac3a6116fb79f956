-- Where a statement part begins that does not come to its end, and where it stops.
use Rattle.std.specs.Prelude.{◌≡◌, ◌<◌, ℕ, if◌then◌else◌, Option, Some, None, Err}
use Rattle.mp_ast.specs.declared.words.WordSymbol.TheVariants as w
use Rattle.mp_ast.specs.declared.blocks.StatementPart.{StatementPart}
use Rattle.mp_ast.specs.Rules.{Input}
use Rattle.mp_cursor.specs.declared.failure.Failure.{Failure}
use Rattle.mp_cursor.specs.declared.failure.Failure.TheVariants.{Memory, Wrong, TooDeep, TooMany}
use Rattle.mp_cursor.specs.declared.next.Next.TheVariants.{Word}
use Rattle.mp_cursor.specs.Nexts.{is}
use Rattle.mp_cursor.specs.Parsers.{Parser, left, next_token}

-- how many tokens there are from the `begin` on that stands next; none where another token does
abbrev pub open_begin : Input → Option ℕ
open_begin i = if is (Word w.Begin) (next_token i) then Some (left i) else None

-- how many tokens there are from the token on that a failure refuses
abbrev pub tokens_from : Failure → ℕ
tokens_from Memory = 0
tokens_from (Wrong tokens) = tokens
tokens_from (TooDeep tokens) = tokens
tokens_from (TooMany tokens) = tokens

-- a part that begins with `begin` and stops, stops behind that token
abbrev pub StopsBehindItsBegin : Parser StatementPart → Type 0
StopsBehindItsBegin part = (i : Input) (failure : Failure) (begin : ℕ) → open_begin i ≡ Some begin → part i ≡ Err failure → tokens_from failure < begin
