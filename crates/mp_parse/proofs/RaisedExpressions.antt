-- Parsers of variables and expressions under higher limits.
use Rattle.std.proofs.Common.{ℕ, zero, suc, refl}
use Rattle.mp_ast.specs.declared.words.WordSymbol.TheVariants as w
use Rattle.mp_ast.specs.declared.symbols.Symbol.TheVariants as s
use Rattle.mp_ast.specs.declared.leaves.Identifier.{Identifier}
use Rattle.mp_ast.specs.declared.expressions.Operator.{Operator}
use Rattle.mp_ast.specs.declared.expressions.Expr.{Expr}
use Rattle.mp_cursor.specs.declared.next.Next.{Next}
use Rattle.mp_cursor.specs.declared.next.Next.TheVariants as next
use Rattle.mp_cursor.specs.declared.next.Next.TheVariants.{Word, Symbol}
use Rattle.mp_cursor.specs.Nexts.{is}
use Rattle.mp_cursor.specs.Parsers.{Parser}
use Rattle.mp_parse_expr.specs.Operators.{relational, written, relational_operator, adding_operator, multiplying_operator}
use Rattle.mp_parse_expr.specs.Expressions as p
use Rattle.mp_parse.proofs.Raised.{Counting, Raises, Limit, Behind, raised_pure, raised_refuse, raised_expect, raised_identifier, raised_number}
use Rattle.mp_parse.proofs.Raised.{raised_string, raised_then, raised_map, raised_branch, raised_optional, raised_repeated, raised_optional_sign}
use Rattle.mp_parse.proofs.Raised.{raised_granted, raised_never, raised_refused, raised_opened, less, no_room, not_higher}

module _ {Same Higher More : Type 0} {count : Counting} {G : Type 0} where
  -- ---- operators

  raised_written : (m : Next) (o : Operator) → Raises Same Higher More count G (written m o) (written m o)
  raised_written m o = raised_then (raised_expect m) (λ at. raised_pure)

  raised_relational : Raises Same Higher More count G relational_operator relational_operator
  unfolding relational_operator
  raised_relational =
      raised_branch (is (Symbol s.Equal)) (raised_written _ _)
      (raised_branch (is (Symbol s.NotEqual)) (raised_written _ _)
      (raised_branch (is (Symbol s.Less)) (raised_written _ _)
      (raised_branch (is (Symbol s.LessEqual)) (raised_written _ _)
      (raised_branch (is (Symbol s.Greater)) (raised_written _ _)
      (raised_branch (is (Symbol s.GreaterEqual)) (raised_written _ _) (raised_written _ _))))))

  raised_adding : Raises Same Higher More count G adding_operator adding_operator
  unfolding adding_operator
  raised_adding =
      raised_branch (is (Symbol s.Plus)) (raised_written _ _) (raised_branch (is (Symbol s.Minus)) (raised_written _ _) (raised_written _ _))

  raised_multiplying : Raises Same Higher More count G multiplying_operator multiplying_operator
  unfolding multiplying_operator
  raised_multiplying =
      raised_branch (is (Symbol s.Star)) (raised_written _ _)
      (raised_branch (is (Word w.Div)) (raised_written _ _) (raised_branch (is (Word w.Mod)) (raised_written _ _) (raised_written _ _)))

  raised_operation : {o : Parser (ℕ × Operator)} {x y : Parser Expr} → Raises Same Higher More count G o o → Raises Same Higher More count G x y →
      Raises Same Higher More count G (p.operation o x) (p.operation o y)
  raised_operation o a = raised_then o (λ at. raised_then a (λ x. raised_pure))

-- what stands behind one more opener
record DeeperRaises (Same Higher More : Type 0) (count : Counting) (G : Type 0) (b c : p.Deeper) : Type 0 where
  pub expression : Raises Same Higher More count G b.expression c.expression
  pub factor : Raises Same Higher More count G b.factor c.factor

module _ {Same Higher More : Type 0} {count : Counting} (room high : ℕ) (b c : p.Deeper) (d : DeeperRaises Same Higher More count (Behind Same Higher room high) b c) where
  -- ---- selectors

  raised_index_list : Raises Same Higher More count (Limit Same Higher room high) (p.index_list room b) (p.index_list high c)
  unfolding p.index_list p.further_index
  raised_index_list =
      raised_opened (Symbol s.LeftBracket) refl room high (λ at. raised_then d.expression (λ first.
      raised_then (raised_repeated _ _ (λ found. raised_map _ (raised_then (raised_expect _) (λ at. raised_map _ d.expression)))) (λ all.
      raised_then (raised_expect _) (λ z. raised_pure))))

  raised_selections : Raises Same Higher More count (Limit Same Higher room high) (p.selections room b) (p.selections high c)
  unfolding p.further_selection p.field_selection p.pointer_selection
  raised_selections =
      raised_repeated _ _ (λ found. raised_map _ (raised_branch (is (Symbol s.LeftBracket)) raised_index_list
      (raised_branch (is (Symbol s.Dot)) (raised_then (raised_expect _) (λ at. raised_then raised_identifier (λ name. raised_pure)))
      (raised_then (raised_expect _) (λ at. raised_pure)))))

  raised_access_behind_with : (name : Identifier) → Raises Same Higher More count (Limit Same Higher room high) (p.access_behind_with room b name)
      (p.access_behind_with high c name)
  unfolding p.access_behind_with
  raised_access_behind_with name = raised_then raised_selections (λ selectors. raised_pure)

  -- ---- actual parameters

  raised_actual : Raises Same Higher More count (Behind Same Higher room high) (p.actual room b) (p.actual high c)
  unfolding p.actual p.width
  raised_actual =
      raised_then d.expression (λ value. raised_then (raised_optional (is (Symbol s.Colon))
      (raised_then (raised_expect _) (λ at. raised_then d.expression (λ value. raised_pure)))) (λ width. raised_pure))

  raised_actuals_with : Raises Same Higher More count (Limit Same Higher room high) (p.actuals_with room b) (p.actuals_with high c)
  unfolding p.actuals_with p.further_actual
  raised_actuals_with =
      raised_opened (Symbol s.LeftParen) refl room high (λ at. raised_then raised_actual (λ first.
      raised_then (raised_repeated _ _ (λ found. raised_map _ (raised_then (raised_expect _) (λ at. raised_actual)))) (λ found. raised_then (raised_expect _) (λ z. raised_pure))))

  -- ---- factors

  raised_member : Raises Same Higher More count (Behind Same Higher room high) (p.member room b) (p.member high c)
  unfolding p.member p.last_member
  raised_member =
      raised_then d.expression (λ first. raised_then (raised_optional (is (Symbol s.DotDot)) (raised_then (raised_expect _) (λ at. d.expression))) (λ last. raised_pure))

  raised_set : Raises Same Higher More count (Limit Same Higher room high) (p.set_constructor room b) (p.set_constructor high c)
  unfolding p.set_constructor p.some_members p.further_member
  raised_set =
      raised_opened (Symbol s.LeftBracket) refl room high (λ at.
      raised_then (raised_branch (is (Symbol s.RightBracket)) raised_pure (raised_then raised_member
      (λ first. raised_repeated _ _ (λ found. raised_map _ (raised_then (raised_expect _) (λ at. raised_member)))))) (λ found.
      raised_then (raised_expect _) (λ z. raised_pure)))

  raised_parenthesized : Raises Same Higher More count (Limit Same Higher room high) (p.parenthesized room b) (p.parenthesized high c)
  unfolding p.parenthesized
  raised_parenthesized = raised_opened (Symbol s.LeftParen) refl room high (λ at. raised_then d.expression (λ x. raised_then (raised_expect _) (λ z. raised_pure)))

  raised_negation : Raises Same Higher More count (Limit Same Higher room high) (p.negation room b) (p.negation high c)
  unfolding p.negation
  raised_negation = raised_opened (Word w.Not) refl room high (λ at. raised_then d.factor (λ x. raised_pure))

  raised_named : Raises Same Higher More count (Limit Same Higher room high) (p.named room b) (p.named high c)
  unfolding p.named
  raised_named = raised_then raised_identifier (λ name. raised_branch (is (Symbol s.LeftParen)) (raised_map _ raised_actuals_with) (raised_map _ (raised_access_behind_with name)))

  raised_factor_with : Raises Same Higher More count (Limit Same Higher room high) (p.factor_with room b) (p.factor_with high c)
  unfolding p.factor_with
  raised_factor_with =
      raised_branch (is next.Number) (raised_map _ raised_number)
      (raised_branch (is next.Text) (raised_map _ raised_string)
      (raised_branch (is (Word w.Nil)) (raised_map _ (raised_expect _))
      (raised_branch (is next.Identifier) raised_named
      (raised_branch (is (Symbol s.LeftParen)) raised_parenthesized (raised_branch (is (Word w.Not)) raised_negation raised_set)))))

  -- ---- expressions

  raised_term : Raises Same Higher More count (Limit Same Higher room high) (p.term room b) (p.term high c)
  unfolding p.term p.further_factor
  raised_term =
      raised_then raised_factor_with (λ first. raised_then (raised_repeated _ _ (λ found. raised_map _
      (raised_operation raised_multiplying raised_factor_with))) (λ more. raised_pure))

  raised_simple : Raises Same Higher More count (Limit Same Higher room high) (p.simple_expression room b) (p.simple_expression high c)
  unfolding p.simple_expression p.further_term
  raised_simple =
      raised_then raised_optional_sign (λ sign. raised_then raised_term (λ first. raised_then
      (raised_repeated _ _ (λ found. raised_map _ (raised_operation raised_adding raised_term))) (λ more. raised_pure)))

  raised_expression_with : Raises Same Higher More count (Limit Same Higher room high) (p.expression_with room b) (p.expression_with high c)
  unfolding p.expression_with p.related
  raised_expression_with = raised_then raised_simple (λ left. raised_then (raised_optional relational (raised_operation raised_relational raised_simple)) (λ right. raised_pure))

-- ---- what stands behind one more opener, of any limits

module _ {Same Higher More : Type 0} {count : Counting} where
  behind_raises : (high room : ℕ) → DeeperRaises Same Higher More count (Behind Same Higher room high) (p.behind room) (p.behind high)
  unfolding p.behind
  behind_raises zero zero = record { expression = raised_refuse; factor = raised_refuse }
  behind_raises zero (suc room) = record {
    expression = raised_refused (not_higher (suc room));
    factor = raised_refused (not_higher (suc room));
  }
  behind_raises (suc high) zero = record {
    expression = raised_never (no_room (suc high)) (raised_expression_with high high (p.behind high) (p.behind high) (behind_raises high high));
    factor = raised_never (no_room (suc high)) (raised_factor_with high high (p.behind high) (p.behind high) (behind_raises high high));
  }
  behind_raises (suc high) (suc room) = record {
    expression = raised_granted (less room high) (raised_expression_with room high (p.behind room) (p.behind high) (behind_raises high room));
    factor = raised_granted (less room high) (raised_factor_with room high (p.behind room) (p.behind high) (behind_raises high room));
  }

  module _ (room high : ℕ) where
    pub raised_expression : Raises Same Higher More count (Limit Same Higher room high) (p.expression room) (p.expression high)
    raised_expression = raised_expression_with room high (p.behind room) (p.behind high) (behind_raises high room)

    pub raised_access_behind : (name : Identifier) → Raises Same Higher More count (Limit Same Higher room high) (p.access_behind room name) (p.access_behind high name)
    raised_access_behind name = raised_access_behind_with room high (p.behind room) (p.behind high) (behind_raises high room) name

    pub raised_access : Raises Same Higher More count (Limit Same Higher room high) (p.access room) (p.access high)
    unfolding p.access
    raised_access = raised_then raised_identifier raised_access_behind

    pub raised_actuals : Raises Same Higher More count (Limit Same Higher room high) (p.actuals room) (p.actuals high)
    raised_actuals = raised_actuals_with room high (p.behind room) (p.behind high) (behind_raises high room)
