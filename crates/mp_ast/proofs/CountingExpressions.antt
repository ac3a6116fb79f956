-- The rules of expressions go on by as many ordinals as they read tokens.
use Rattle.std.proofs.Common.{ℕ, zero, suc}
use Rattle.mp_ast.specs.ExpressionGrammar.{Deeper, behind, relational_operator, adding_operator, multiplying_operator, access_with, actuals_with, factor_with}
use Rattle.mp_ast.specs.ExpressionGrammar.{term, simple_expression, expression_with, expression, access, actuals}
use Rattle.mp_ast.proofs.Counting.{Counts, nothing, never, next, made, either, maybe, repeated, repeated_lists, one, row, opens, identifier_counts}
use Rattle.mp_ast.proofs.Counting.{number_counts, string_counts, sign_counts}

relational : Counts relational_operator
relational =
    either (next one (λ at. nothing)) (either (next one (λ at. nothing)) (either (next one (λ at. nothing)) (either (next one (λ at. nothing))
    (either (next one (λ at. nothing)) (either (next one (λ at. nothing)) (next one (λ at. nothing)))))))

adding : Counts adding_operator
adding = either (next one (λ at. nothing)) (either (next one (λ at. nothing)) (next one (λ at. nothing)))

multiplying : Counts multiplying_operator
multiplying = either (next one (λ at. nothing)) (either (next one (λ at. nothing)) (either (next one (λ at. nothing)) (next one (λ at. nothing))))

record DeeperCounts (b : Deeper) : Type 0 where
  pub expression : Counts b.expression
  pub factor : Counts b.factor

module _ (room : ℕ) (b : Deeper) (c : DeeperCounts b) where
  access_counts_with : Counts (access_with room b)
  access_counts_with =
      next identifier_counts (λ name. next
      (repeated_lists
      (either
      (next (opens room _) (λ at. next c.expression (λ first. next (repeated (next one (λ comma. made c.expression))) (λ more. next one (λ end. nothing)))))
      (either
      (next one (λ at. next identifier_counts (λ field. nothing)))
      (next one (λ at. nothing)))))
      (λ selectors. nothing))

  actuals_counts_with : Counts (actuals_with room b)
  actuals_counts_with =
      next (opens room _) (λ at. next
      (row one (next c.expression (λ value. next (maybe (next one (λ colon. next c.expression (λ width. nothing)))) (λ width. nothing))))
      (λ found. next one (λ end. nothing)))

  factor_counts_with : Counts (factor_with room b)
  factor_counts_with =
      either (made number_counts)
      (either (made string_counts)
      (either (made one)
      (either (made access_counts_with)
      (either (next identifier_counts (λ name. made actuals_counts_with))
      (either (next (opens room _) (λ at. next c.expression (λ x. next one (λ end. nothing))))
      (either (next (opens room _) (λ at. made c.factor))
      (next (opens room _) (λ at. next
      (either (row one (next c.expression (λ first. next (maybe (next one (λ dots. c.expression))) (λ last. nothing)))) nothing)
      (λ members. next one (λ end. nothing))))))))))

  term_counts : Counts (term room b)
  term_counts = next factor_counts_with (λ first. next (repeated (next multiplying (λ o. next factor_counts_with (λ x. nothing)))) (λ more. nothing))

  simple_counts : Counts (simple_expression room b)
  simple_counts =
      next (maybe sign_counts) (λ sign. next term_counts (λ first. next (repeated (next adding (λ o. next term_counts (λ x. nothing)))) (λ more. nothing)))

  expression_counts_with : Counts (expression_with room b)
  expression_counts_with =
      next simple_counts (λ left. next (maybe (next relational (λ o. next simple_counts (λ x. nothing)))) (λ right. nothing))

behind_counts : (room : ℕ) → DeeperCounts (behind room)
unfolding behind
behind_counts zero = record { expression = never; factor = never }
behind_counts (suc room) =
    let c = behind_counts room in record { expression = expression_counts_with room (behind room) c; factor = factor_counts_with room (behind room) c }

pub expression_counts : (room : ℕ) → Counts (expression room)
expression_counts room = expression_counts_with room (behind room) (behind_counts room)

pub access_counts : (room : ℕ) → Counts (access room)
access_counts room = access_counts_with room (behind room) (behind_counts room)

pub actuals_counts : (room : ℕ) → Counts (actuals room)
actuals_counts room = actuals_counts_with room (behind room) (behind_counts room)
