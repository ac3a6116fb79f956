use Rattle.mp_lex.proofs.BoundarySteps.{starts_here, starts_nowhere}
use Rattle.mp_lex.proofs.boundaries.error_starts.Goals as goal

pub returns-then-first-errors : goal.returns-then-first-errors
returns-then-first-errors c = starts_here (λ error. error.start) c.args.errors.now c.args.place c.first_error-first.result
    (record { start = 0; len = 0; code = 0 }) c.requires c.first_error-first.ensures.before c.first_error-first.ensures.after c.if-first-errors.true

pub returns-else-first-errors : goal.returns-else-first-errors
returns-else-first-errors c =
    starts_nowhere (λ error. error.start) c.args.errors.now c.args.place c.first_error-first.result c.first_error-first.ensures.before c.if-first-errors.false
