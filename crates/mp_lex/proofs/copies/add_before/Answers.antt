use Rattle.mp_lex.specs.Windows.{moved_token, moved_error}
use Rattle.mp_lex.proofs.CopyLemmas.{same_token, same_error, copied_before}
use Rattle.mp_lex.proofs.copies.add_before.Goals as goal

pub returns-clause-tokens : goal.returns-clause-tokens
returns-clause-tokens c =
    let at = c.first_token-first.ensures in
    copied_before (λ token. token.start)
    (moved_token 0 0) c.args.old.now.tokens c.get.result.now c.get-2.result.now c.args.place c.first_token-first.result c.args.tokens.now _ same_token
    c.get.ensures c.get-2.ensures
    (record { within = at.within; before = at.before; after = at.after }) c.in_ok-add_tokens.ensures

pub returns-clause-errors : goal.returns-clause-errors
returns-clause-errors c =
    let at = c.first_error-first.ensures in
    copied_before (λ error. error.start)
    (moved_error 0 0) c.args.old.now.errors c.get-3.result.now c.get-4.result.now c.args.place c.first_error-first.result c.args.errors.now _ same_error
    c.get-3.ensures c.get-4.ensures
    (record { within = at.within; before = at.before; after = at.after }) c.in_ok-add_errors.ensures
