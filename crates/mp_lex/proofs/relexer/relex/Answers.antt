use Rattle.std.proofs.Common.{◌+◌, ◌-◌, ◌++◌, ap, ◌∙◌, arith}
use Rattle.mp_lex.specs.Windows.{before_place}
use Rattle.mp_lex.proofs.OrderLemmas.{tokens_in_order, errors_in_order}
use Rattle.mp_lex.proofs.RelexLemmas.{kept_is, early_is, kept_lexed, moved_tokens, moved_errors, tokens_rise, errors_rise, token_room, error_room}
use Rattle.mp_lex.proofs.relexer.relex.Goals as goal

pub add_before-requires-clause-tokens : goal.add_before-requires-clause-tokens
add_before-requires-clause-tokens g c = tokens_rise c.args.old.now.tokens c.args.old.now.errors c.args.change (g.T.Reader.bytes c.args.text.now) c.requires.changed

pub add_before-requires-clause-errors : goal.add_before-requires-clause-errors
add_before-requires-clause-errors g c = errors_rise c.args.old.now.tokens c.args.old.now.errors c.args.change (g.T.Reader.bytes c.args.text.now) c.requires.changed

pub add_changed-requires-clause-tokens : goal.add_changed-requires-clause-tokens
add_changed-requires-clause-tokens g c = tokens_rise c.args.old.now.tokens c.args.old.now.errors c.args.change (g.T.Reader.bytes c.args.text.now) c.requires.changed

pub add_changed-requires-clause-errors : goal.add_changed-requires-clause-errors
add_changed-requires-clause-errors g c = errors_rise c.args.old.now.tokens c.args.old.now.errors c.args.change (g.T.Reader.bytes c.args.text.now) c.requires.changed

pub add_changed-requires-clause-before : goal.add_changed-requires-clause-before
add_changed-requires-clause-before g c =
    early_is c.args.change.start c.args.old.now.tokens c.args.old.now.errors c.max-kept.result
    (kept_is c.args.change.start c.args.old.now.tokens c.get.result.now c.args.old.now.errors c.get-2.result.now c.tokens_kept_to.result
    c.errors_kept_to.result c.max-kept.result c.get.ensures c.get-2.ensures c.tokens_kept_to.ensures c.errors_kept_to.ensures c.max-kept.ensures)

pub add_changed-requires-clause-lexed : goal.add_changed-requires-clause-lexed
add_changed-requires-clause-lexed g c =
    kept_lexed c.args.old.now.tokens c.add_before.new.tokens c.args.old.now.errors c.add_before.new.errors c.args.change
    (g.T.Reader.bytes c.args.text.now) c.max-kept.result c.requires.changed
    (kept_is c.args.change.start c.args.old.now.tokens c.get.result.now c.args.old.now.errors c.get-2.result.now c.tokens_kept_to.result
    c.errors_kept_to.result c.max-kept.result c.get.ensures c.get-2.ensures c.tokens_kept_to.ensures c.errors_kept_to.ensures c.max-kept.ensures)
    (c.in_ok-add_before.ensures.tokens ∙ ap (λ ts. ts ++ before_place (λ token. token.start) c.max-kept.result c.args.old.now.tokens) c.in_ok-tokens.ensures)
    (c.in_ok-add_before.ensures.errors ∙ ap (λ es. es ++ before_place (λ error. error.start) c.max-kept.result c.args.old.now.errors) c.new-errors.ensures)

pub returns-in_err-stop-clause-steps : goal.returns-in_err-stop-clause-steps
returns-in_err-stop-clause-steps g c =
    let kept = kept_is c.args.change.start c.args.old.now.tokens c.get.result.now c.args.old.now.errors c.get-2.result.now c.tokens_kept_to.result
    c.errors_kept_to.result c.max-kept.result c.get.ensures c.get-2.ensures c.tokens_kept_to.ensures c.errors_kept_to.ensures c.max-kept.ensures in
    omega (arith, kept, c.add_changed.ensures.steps)

pub returns-in_err-add_moved-clause-steps : goal.returns-in_err-add_moved-clause-steps
returns-in_err-add_moved-clause-steps g c =
    let kept = kept_is c.args.change.start c.args.old.now.tokens c.get.result.now c.args.old.now.errors c.get-2.result.now c.tokens_kept_to.result
    c.errors_kept_to.result c.max-kept.result c.get.ensures c.get-2.ensures c.tokens_kept_to.ensures c.errors_kept_to.ensures c.max-kept.ensures in
    omega (arith, kept, c.add_changed.ensures.steps)

pub returns-clause-steps : goal.returns-clause-steps
returns-clause-steps g c =
    let kept = kept_is c.args.change.start c.args.old.now.tokens c.get.result.now c.args.old.now.errors c.get-2.result.now c.tokens_kept_to.result
    c.errors_kept_to.result c.max-kept.result c.get.ensures c.get-2.ensures c.tokens_kept_to.ensures c.errors_kept_to.ensures c.max-kept.ensures in
    omega (arith, kept, c.add_changed.ensures.steps)

pub add_moved-requires-clause-tokens : goal.add_moved-requires-clause-tokens
add_moved-requires-clause-tokens g c = tokens_rise c.args.old.now.tokens c.args.old.now.errors c.args.change (g.T.Reader.bytes c.args.text.now) c.requires.changed

pub add_moved-requires-clause-errors : goal.add_moved-requires-clause-errors
add_moved-requires-clause-errors g c = errors_rise c.args.old.now.tokens c.args.old.now.errors c.args.change (g.T.Reader.bytes c.args.text.now) c.requires.changed

pub add_moved-requires-clause-token_room : goal.add_moved-requires-clause-token_room
add_moved-requires-clause-token_room g c =
    let within = c.in_ok-stop.ensures.lexed.within in
    token_room c.args.old.now.tokens c.args.old.now.errors c.args.change (g.T.Reader.bytes c.args.text.now)
    (c.in_ok-stop.stop + c.args.change.removed - c.args.change.added) c.in_ok-stop.stop c.requires.changed (omega (arith, within, c.requires.short))

pub add_moved-requires-clause-error_room : goal.add_moved-requires-clause-error_room
add_moved-requires-clause-error_room g c =
    let within = c.in_ok-stop.ensures.lexed.within in
    error_room c.args.old.now.tokens c.args.old.now.errors c.args.change (g.T.Reader.bytes c.args.text.now)
    (c.in_ok-stop.stop + c.args.change.removed - c.args.change.added) c.in_ok-stop.stop c.requires.changed (omega (arith, within, c.requires.short))

pub returns-clause-tokens : goal.returns-clause-tokens
returns-clause-tokens g c =
    moved_tokens c.args.old.now.tokens c.add_changed.new.tokens c.add_moved.new.tokens c.args.old.now.errors c.add_changed.new.errors c.args.change
    (g.T.Reader.bytes c.args.text.now) c.in_ok-stop.stop
    (c.in_ok-stop.stop + c.args.change.removed - c.args.change.added) c.requires.changed c.in_ok-stop.ensures.lexed c.in_ok-stop.ensures.stop
    (λ i. c.in_ok-stop.stop + c.args.change.removed - c.args.change.added) c.in_ok-add_moved.ensures.tokens

pub returns-clause-errors : goal.returns-clause-errors
returns-clause-errors g c =
    moved_errors c.args.old.now.tokens c.add_changed.new.tokens c.args.old.now.errors c.add_changed.new.errors c.add_moved.new.errors c.args.change
    (g.T.Reader.bytes c.args.text.now) c.in_ok-stop.stop
    (c.in_ok-stop.stop + c.args.change.removed - c.args.change.added) c.requires.changed c.in_ok-stop.ensures.lexed c.in_ok-stop.ensures.stop
    (λ i. c.in_ok-stop.stop + c.args.change.removed - c.args.change.added) c.in_ok-add_moved.ensures.errors

pub returns-clause-tokens_in_order : goal.returns-clause-tokens_in_order
returns-clause-tokens_in_order g c =
    tokens_in_order (g.T.Reader.bytes c.args.text.now) c.add_moved.new.tokens
    (moved_tokens c.args.old.now.tokens c.add_changed.new.tokens c.add_moved.new.tokens c.args.old.now.errors c.add_changed.new.errors c.args.change
    (g.T.Reader.bytes c.args.text.now) c.in_ok-stop.stop
    (c.in_ok-stop.stop + c.args.change.removed - c.args.change.added) c.requires.changed c.in_ok-stop.ensures.lexed c.in_ok-stop.ensures.stop
    (λ i. c.in_ok-stop.stop + c.args.change.removed - c.args.change.added) c.in_ok-add_moved.ensures.tokens)

pub returns-clause-errors_in_order : goal.returns-clause-errors_in_order
returns-clause-errors_in_order g c =
    errors_in_order (g.T.Reader.bytes c.args.text.now) c.add_moved.new.errors
    (moved_errors c.args.old.now.tokens c.add_changed.new.tokens c.args.old.now.errors c.add_changed.new.errors c.add_moved.new.errors c.args.change
    (g.T.Reader.bytes c.args.text.now) c.in_ok-stop.stop
    (c.in_ok-stop.stop + c.args.change.removed - c.args.change.added) c.requires.changed c.in_ok-stop.ensures.lexed c.in_ok-stop.ensures.stop
    (λ i. c.in_ok-stop.stop + c.args.change.removed - c.args.change.added) c.in_ok-add_moved.ensures.errors)
