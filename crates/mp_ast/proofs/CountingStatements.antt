-- The rules of statements go on by as many ordinals as they read tokens.
use Rattle.std.proofs.Common.{ℕ, zero, suc}
use Rattle.mp_ast.specs.StatementGrammar.{Deeper, behind, unlabelled, statement_with, sequence}
use Rattle.mp_ast.proofs.Counting.{Counts, nothing, never, next, made, either, maybe, one, row, ordinal, unless, opens, identifier_counts, number_counts, constant_counts}
use Rattle.mp_ast.proofs.CountingExpressions.{expression_counts, access_counts, actuals_counts}

record DeeperCounts (b : Deeper) : Type 0 where
  pub expression : Counts b.expression
  pub access : Counts b.access
  pub statement : Counts b.statement

module _ (room : ℕ) (b : Deeper) (c : DeeperCounts b) where
  unlabelled_counts : Counts (unlabelled room b)
  unlabelled_counts =
      either (made ordinal)
      (either (next (access_counts room) (λ variable. next one (λ at. next (expression_counts room) (λ value. nothing))))
      (either (next identifier_counts (λ name. next (either (actuals_counts room) nothing) (λ given. nothing)))
      (either (next one (λ at. next number_counts (λ label. nothing)))
      (either (next (opens room _) (λ at. next (row one c.statement) (λ statements. next one (λ end. nothing))))
      (either (next (opens room _) (λ at. next c.expression (λ condition. next one (λ word. next c.statement (λ first.
      next (either (made (next one (λ word. c.statement))) (next unless (λ word. nothing))) (λ second. nothing))))))
      (either (next (opens room _) (λ at. next c.expression (λ index. next one (λ word.
      next (row one (next (row one constant_counts) (λ constants. next one (λ colon. next c.statement (λ body. nothing))))) (λ arms.
      next (maybe one) (λ semicolon. next one (λ end. nothing)))))))
      (either (next (opens room _) (λ at. next c.expression (λ condition. next one (λ word. next c.statement (λ body. nothing)))))
      (either (next (opens room _) (λ at. next (row one c.statement) (λ statements. next one (λ word. next c.expression (λ condition. nothing)))))
      (either (next (opens room _) (λ at.
      next
      (next identifier_counts (λ variable. next one (λ assign. next c.expression (λ first.
      next (either (next one (λ word. nothing)) (next one (λ word. nothing))) (λ direction. next c.expression (λ last. nothing))))))
      (λ head. next one (λ word. next c.statement (λ body. nothing)))))
      (next (opens room _) (λ at. next (row one c.access) (λ records. next one (λ word. next c.statement (λ body. nothing))))))))))))))

  statement_counts_with : Counts (statement_with room b)
  statement_counts_with = either unlabelled_counts (next number_counts (λ label. next one (λ colon. made unlabelled_counts)))

behind_counts : (room : ℕ) → DeeperCounts (behind room)
unfolding behind
behind_counts zero = record { expression = never; access = never; statement = never }
behind_counts (suc room) =
    let c = behind_counts room in
    record { expression = expression_counts room; access = access_counts room; statement = statement_counts_with room (behind room) c }

pub sequence_behind_counts : (room : ℕ) → Counts (sequence (behind room).statement)
sequence_behind_counts room = row one (behind_counts room).statement
