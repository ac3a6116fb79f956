use Rattle.mp_lex.proofs.BoundarySteps.{starts_here, starts_nowhere}
use Rattle.mp_lex.proofs.boundaries.token_starts.Goals as goal

pub returns-then-first-tokens : goal.returns-then-first-tokens
returns-then-first-tokens c =
    starts_here (λ token. token.start) c.args.tokens.now c.args.place c.first_token-first.result c.index-tokens-first.result c.requires
    c.first_token-first.ensures.before c.first_token-first.ensures.after c.if-first-tokens.true

pub returns-else-first-tokens : goal.returns-else-first-tokens
returns-else-first-tokens c =
    starts_nowhere (λ token. token.start) c.args.tokens.now c.args.place c.first_token-first.result c.first_token-first.ensures.before c.if-first-tokens.false
