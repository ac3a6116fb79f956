use Rattle.mp_lex.specs.Windows.{moved_token, moved_error}
use Rattle.mp_lex.proofs.CopyLemmas.{copied_from, rest_can_move}
use Rattle.mp_lex.proofs.copies.add_moved.Goals as goal

pub returns-clause-tokens : goal.returns-clause-tokens
returns-clause-tokens c =
    let at = c.first_token-first.ensures in
    copied_from (λ token. token.start)
    (moved_token c.args.from c.args.to) c.args.old.now.tokens c.get.result.now c.get-2.result.now c.args.from c.first_token-first.result c.args.tokens.now
    _ c.get.ensures c.get-2.ensures
    (record { within = at.within; before = at.before; after = at.after }) c.in_ok-add_tokens.ensures

pub returns-clause-errors : goal.returns-clause-errors
returns-clause-errors c =
    let at = c.first_error-first.ensures in
    copied_from (λ error. error.start)
    (moved_error c.args.from c.args.to) c.args.old.now.errors c.get-3.result.now c.get-4.result.now c.args.from c.first_error-first.result
    c.args.errors.now _ c.get-3.ensures c.get-4.ensures
    (record { within = at.within; before = at.before; after = at.after }) c.in_ok-add_errors.ensures

pub add_tokens-requires : goal.add_tokens-requires
add_tokens-requires c =
    let at = c.first_token-first.ensures in
    rest_can_move (λ token. token.start) c.args.old.now.tokens c.get.result.now c.get-2.result.now c.args.from c.args.to c.first_token-first.result c.get.ensures c.get-2.ensures
    (record { within = at.within; before = at.before; after = at.after }) c.requires.token_room

pub add_errors-requires : goal.add_errors-requires
add_errors-requires c =
    let at = c.first_error-first.ensures in
    rest_can_move (λ error. error.start) c.args.old.now.errors c.get-3.result.now c.get-4.result.now c.args.from c.args.to c.first_error-first.result
    c.get-3.ensures c.get-4.ensures
    (record { within = at.within; before = at.before; after = at.after }) c.requires.error_room
