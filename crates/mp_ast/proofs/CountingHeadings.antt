-- The rules of headings go on by as many ordinals as they read tokens.
use Rattle.std.proofs.Common.{ℕ, zero, suc}
use Rattle.mp_ast.specs.HeadingGrammar.{formals_behind, formals, heading}
use Rattle.mp_ast.proofs.Counting.{Counts, nothing, never, next, made, either, maybe, one, row, opens, identifier_counts}

formals_counts_with : (room : ℕ) → Counts (formals_behind room) → Counts (formals room)
formals_counts_with room c =
    next (opens room _) (λ at. next
    (row one
    (either (next (row one identifier_counts) (λ names. made (next one (λ colon. identifier_counts))))
    (either (next one (λ at. next (row one identifier_counts) (λ names. made (next one (λ colon. identifier_counts)))))
    (either (next one (λ at. next identifier_counts (λ name. next (either c nothing) (λ own. nothing))))
    (next one (λ at. next identifier_counts (λ name. next (either c nothing) (λ own. made (next one (λ colon. identifier_counts))))))))))
    (λ sections. next one (λ end. nothing)))

behind_counts : (room : ℕ) → Counts (formals_behind room)
unfolding formals_behind
behind_counts zero = never
behind_counts (suc room) = formals_counts_with room (behind_counts room)

formals_counts : (room : ℕ) → Counts (formals room)
formals_counts room = formals_counts_with room (behind_counts room)

pub heading_counts : (room : ℕ) → Counts (heading room)
heading_counts room =
    either
    (next one (λ at. next identifier_counts (λ name. next (either (formals_counts room) nothing) (λ sections. nothing))))
    (next one (λ at. next identifier_counts (λ name. next (either (formals_counts room) nothing) (λ sections.
    next (maybe (next one (λ colon. identifier_counts))) (λ result. nothing)))))
