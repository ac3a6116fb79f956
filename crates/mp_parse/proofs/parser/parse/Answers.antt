use Rattle.std.proofs.Common.{◌≡◌, ◌≢◌, Some, length, sym, ap, ◌∙◌, subst, arith}
use Rattle.mp_ast.specs.Programs.{kinds_of, standard}
use Rattle.mp_parse.specs.declared.errors.ParseError.TheVariants as error
use Rattle.mp_cursor.specs.Parsers.{left}
use Rattle.mp_parse.specs.Errors.{NamesFirstError, error_of, first_error, told}
use Rattle.mp_parse.proofs.ProgramLemmas.{only_memory, no_rest, same_tree, is_derived}
use Rattle.mp_parse.proofs.ErrorLemmas.{same_count}
use Rattle.mp_parse.proofs.FirstErrorLemmas.{names_error, rest_is_error, told_by, code_where}
use Rattle.mp_ast.specs.FirstError.{IsFirstError}
use Rattle.mp_parse.proofs.FoundLemmas.{stop_found, rest_found, none_found}
use Rattle.mp_parse.proofs.parser.parse.Goals as goal

pub returns-in-Err-clause-only : goal.returns-in-Err-clause-only
returns-in-Err-clause-only c =
    λ t d. c.error_of.ensures ∙ ap (λ e. error_of e (length c.get-tokens.result.now)) (only_memory standard _ _ t
    (λ n. rw (← c.get-tokens.ensures, ← c.new-cursor.ensures) (c.in-Err.ensures n)) d)

pub returns-in-Err-clause-error : goal.returns-in-Err-clause-error
returns-in-Err-clause-error c =
    let tokens = c.args.lexed.now.tokens in
    let stop = names_error (kinds_of tokens) c.in-Err.failure (λ n. rw (← c.get-tokens.ensures, ← c.new-cursor.ensures) (c.in-Err.ensures n)) in
    told_by tokens c.get-tokens.result.now (NamesFirstError (kinds_of tokens)) c.in-Err.failure c.error_of.result c.get-tokens.ensures c.error_of.ensures stop

pub returns-then-left-gt0-clause-only : goal.returns-then-left-gt0-clause-only
unfolding left
returns-then-left-gt0-clause-only c =
    λ t d. absurd (no_rest standard _ c.in-Ok.found t c.program.new.tokens (rw (← c.get-tokens.ensures, ← c.new-cursor.ensures) c.in-Ok.ensures)
    (let l = c.left-left.ensures in let h = c.if-left-gt0.true in omega arith) d)

pub returns-then-left-gt0-clause-error : goal.returns-then-left-gt0-clause-error
unfolding left
returns-then-left-gt0-clause-error c =
    let tokens = c.args.lexed.now.tokens in
    let count = same_count tokens ∙ ap (λ t. length t) (sym c.get-tokens.ensures) in
    let l = c.left-left.ensures in
    let h = c.if-left-gt0.true in
    let s = c.saturating_sub-token.ensures in
    subst (λ n. IsFirstError standard (kinds_of tokens) n 205) (omega arith)
    (rest_is_error (kinds_of tokens) c.in-Ok.found c.program.new.tokens (rw (← c.get-tokens.ensures, ← c.new-cursor.ensures) c.in-Ok.ensures) (omega arith))

pub returns-clause-tree : goal.returns-clause-tree
unfolding left
returns-clause-tree c =
    is_derived standard _ c.in-Ok.found c.program.new.tokens (rw (← c.get-tokens.ensures, ← c.new-cursor.ensures) c.in-Ok.ensures)
    (let l = c.left-left.ensures in let h = c.if-left-gt0.false in omega arith)

pub returns-clause-only : goal.returns-clause-only
returns-clause-only c = λ t d. same_tree standard _ c.in-Ok.found t c.program.new.tokens (rw (← c.get-tokens.ensures, ← c.new-cursor.ensures) c.in-Ok.ensures) d

pub returns-in-Err-clause-found : goal.returns-in-Err-clause-found
returns-in-Err-clause-found c =
    let tokens = c.args.lexed.now.tokens in
    let count = same_count tokens ∙ ap (λ t. length t) (sym c.get-tokens.ensures) in
    let stop = stop_found (kinds_of tokens) c.in-Err.failure (λ n. rw (← c.get-tokens.ensures, ← c.new-cursor.ensures) (c.in-Err.ensures n)) in
    subst (λ e. e ≢ error.Memory → first_error (kinds_of tokens) ≡ told e) (sym c.error_of.ensures)
    (subst (λ n. error_of c.in-Err.failure n ≢ error.Memory → first_error (kinds_of tokens) ≡ told (error_of c.in-Err.failure n)) count stop)

pub returns-then-left-gt0-clause-found : goal.returns-then-left-gt0-clause-found
unfolding left
returns-then-left-gt0-clause-found c =
    let tokens = c.args.lexed.now.tokens in
    let count = same_count tokens ∙ ap (λ t. length t) (sym c.get-tokens.ensures) in
    let l = c.left-left.ensures in
    let h = c.if-left-gt0.true in
    let s = c.saturating_sub-token.ensures in
    λ n. subst (λ m. first_error (kinds_of tokens) ≡ Some (record { token = m; code = 205 })) (omega arith)
    (rest_found (kinds_of tokens) c.in-Ok.found c.program.new.tokens (rw (← c.get-tokens.ensures, ← c.new-cursor.ensures) c.in-Ok.ensures) (omega arith))

pub returns-clause-found : goal.returns-clause-found
unfolding left
returns-clause-found c =
    none_found _ c.in-Ok.found c.program.new.tokens (rw (← c.get-tokens.ensures, ← c.new-cursor.ensures) c.in-Ok.ensures)
    (let l = c.left-left.ensures in let h = c.if-left-gt0.false in omega arith)

pub returns-in-Err-clause-code : goal.returns-in-Err-clause-code
returns-in-Err-clause-code c =
    let tokens = c.args.lexed.now.tokens in
    let stop = names_error (kinds_of tokens) c.in-Err.failure (λ n. rw (← c.get-tokens.ensures, ← c.new-cursor.ensures) (c.in-Err.ensures n)) in
    code_where (kinds_of tokens) c.error_of.result (told_by tokens c.get-tokens.result.now
    (NamesFirstError (kinds_of tokens)) c.in-Err.failure c.error_of.result c.get-tokens.ensures c.error_of.ensures stop)

pub returns-then-left-gt0-clause-code : goal.returns-then-left-gt0-clause-code
unfolding left
returns-then-left-gt0-clause-code c =
    let tokens = c.args.lexed.now.tokens in
    let count = same_count tokens ∙ ap (λ t. length t) (sym c.get-tokens.ensures) in
    let l = c.left-left.ensures in
    let h = c.if-left-gt0.true in
    let s = c.saturating_sub-token.ensures in
    code_where (kinds_of tokens) (error.Syntax c.saturating_sub-token.result 205) (subst (λ n. IsFirstError standard (kinds_of tokens) n 205) (omega arith)
    (rest_is_error (kinds_of tokens) c.in-Ok.found c.program.new.tokens (rw (← c.get-tokens.ensures, ← c.new-cursor.ensures) c.in-Ok.ensures) (omega arith)))
