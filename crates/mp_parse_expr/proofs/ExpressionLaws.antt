-- The laws of expressions: the parser reads exactly what the grammar allows.
use Rattle.std.proofs.Common.{◌≡◌, Bool, true, ℕ, zero, suc, [], ◌∷◌, refl}
use Rattle.mp_ast.specs.declared.tokens.TokenKind.TheVariants as kind
use Rattle.mp_ast.specs.declared.words.WordSymbol.TheVariants as w
use Rattle.mp_ast.specs.declared.symbols.Symbol.TheVariants as s
use Rattle.mp_ast.specs.declared.leaves.Identifier.{Identifier}
use Rattle.mp_ast.specs.declared.expressions.Operator.{Operator}
use Rattle.mp_ast.specs.declared.expressions.Access.{Access}
use Rattle.mp_ast.specs.declared.expressions.Operation.{Operation}
use Rattle.mp_ast.specs.declared.expressions.Expr.{Expr}
use Rattle.mp_ast.specs.declared.expressions.Expr.TheVariants as e
use Rattle.mp_ast.specs.declared.expressions.Selector.TheVariants as selector
use Rattle.mp_ast.specs.Rules.{Rule}
use Rattle.mp_ast.specs.Rules as rule
use Rattle.mp_ast.specs.ExpressionGrammar as g
use Rattle.mp_cursor.specs.declared.next.Next.{Next}
use Rattle.mp_cursor.specs.declared.next.Next.TheVariants as next
use Rattle.mp_cursor.specs.declared.next.Next.TheVariants.{Word, Symbol}
use Rattle.mp_cursor.specs.Nexts.{Nexts, is, any, either, among, but}
use Rattle.mp_cursor.specs.Parsers.{Parser, ◌>>=◌, ◌>>◌, ◌<$>◌, pure, expect}
use Rattle.mp_cursor.proofs.NextSets.{apart, within_any, within_itself}
use Rattle.mp_cursor.proofs.RuleLaws.{Law, law_pure, law_then, law_map, law_followed, law_begun, law_as, law_word, law_symbol, symbol_only}
use Rattle.mp_cursor.proofs.SameRules.{same_refl, same_sym, same_trans, same_or, or_grouped, or_swapped, then_grouped, factored, map_first}
use Rattle.mp_cursor.proofs.LeafLaws.{law_identifier, law_number, law_string, has_room, law_opened_word, law_opened_symbol}
use Rattle.mp_cursor.proofs.ChoiceLaws.{law_branch, law_branch_first, law_optional}
use Rattle.mp_cursor.proofs.ListLaws.{Falls, falls_word, falls_symbol, falls_opened, falls_then, falls_branch, law_many, law_many_from}
use Rattle.mp_cursor.proofs.ListLaws.{law_many_lists, law_separated, law_further, falls_further}
use Rattle.mp_cursor.proofs.ConstantLaws.{law_optional_sign}
use Rattle.mp_parse_expr.specs.Operators.{written, relational, relational_operator, adding, adding_operator, multiplying, multiplying_operator}
use Rattle.mp_parse_expr.specs.Expressions as p
use Rattle.mp_parse_expr.specs.ExpressionFollows.{after_expression}

-- ---- operators

law_written : (n : Next) (o : Operator) → {b : Bool} {r : Rule ℕ} → Law b (is n) any (expect n) r → Law b (is n) any (written n o) (rule.◌>>=◌ r (g.written o))
law_written n o a = law_then a (within_any any) (λ at. law_pure (at, o) any)

law_relational : Law true relational any relational_operator g.relational_operator
unfolding relational_operator
law_relational = law_begun relational refl
    (law_branch (is (Symbol s.Equal)) (law_written (Symbol s.Equal) _ (law_symbol s.Equal)) refl refl
    (law_branch (is (Symbol s.NotEqual)) (law_written (Symbol s.NotEqual) _ (law_symbol s.NotEqual)) refl refl
    (law_branch (is (Symbol s.Less)) (law_written (Symbol s.Less) _ (law_symbol s.Less)) refl refl
    (law_branch (is (Symbol s.LessEqual)) (law_written (Symbol s.LessEqual) _ (law_symbol s.LessEqual)) refl refl
    (law_branch (is (Symbol s.Greater)) (law_written (Symbol s.Greater) _ (law_symbol s.Greater)) refl refl
    (law_branch (is (Symbol s.GreaterEqual)) (law_written (Symbol s.GreaterEqual) _ (law_symbol s.GreaterEqual)) refl refl
    (law_written (Word w.In) _ (law_word w.In))))))))

law_adding : Law true adding any adding_operator g.adding_operator
unfolding adding_operator
law_adding = law_begun adding refl
    (law_branch (is (Symbol s.Plus)) (law_written (Symbol s.Plus) _ (law_symbol s.Plus)) refl refl
    (law_branch (is (Symbol s.Minus)) (law_written (Symbol s.Minus) _ (law_symbol s.Minus)) refl refl
    (law_written (Word w.Or) _ (law_word w.Or))))

law_multiplying : Law true multiplying any multiplying_operator g.multiplying_operator
unfolding multiplying_operator
law_multiplying = law_begun multiplying refl
    (law_branch (is (Symbol s.Star)) (law_written (Symbol s.Star) _ (law_symbol s.Star)) refl refl
    (law_branch (is (Word w.Div)) (law_written (Word w.Div) _ (law_word w.Div)) refl refl
    (law_branch (is (Word w.Mod)) (law_written (Word w.Mod) _ (law_word w.Mod)) refl refl
    (law_written (Word w.And) _ (law_word w.And)))))

falls_written : (n : Next) (o : Operator) → Falls (expect n) → Falls (written n o)
falls_written n o a = falls_then a (λ at. law_pure (at, o) any)

falls_relational : Falls relational_operator
unfolding relational_operator
falls_relational =
    falls_branch (is (Symbol s.Equal)) (falls_written (Symbol s.Equal) _ (falls_symbol s.Equal))
    (falls_branch (is (Symbol s.NotEqual)) (falls_written (Symbol s.NotEqual) _ (falls_symbol s.NotEqual))
    (falls_branch (is (Symbol s.Less)) (falls_written (Symbol s.Less) _ (falls_symbol s.Less))
    (falls_branch (is (Symbol s.LessEqual)) (falls_written (Symbol s.LessEqual) _ (falls_symbol s.LessEqual))
    (falls_branch (is (Symbol s.Greater)) (falls_written (Symbol s.Greater) _ (falls_symbol s.Greater))
    (falls_branch (is (Symbol s.GreaterEqual)) (falls_written (Symbol s.GreaterEqual) _ (falls_symbol s.GreaterEqual))
    (falls_written (Word w.In) _ (falls_word w.In)))))))

falls_adding : Falls adding_operator
unfolding adding_operator
falls_adding =
    falls_branch (is (Symbol s.Plus)) (falls_written (Symbol s.Plus) _ (falls_symbol s.Plus))
    (falls_branch (is (Symbol s.Minus)) (falls_written (Symbol s.Minus) _ (falls_symbol s.Minus)) (falls_written (Word w.Or) _ (falls_word w.Or)))

falls_multiplying : Falls multiplying_operator
unfolding multiplying_operator
falls_multiplying =
    falls_branch (is (Symbol s.Star)) (falls_written (Symbol s.Star) _ (falls_symbol s.Star))
    (falls_branch (is (Word w.Div)) (falls_written (Word w.Div) _ (falls_word w.Div))
    (falls_branch (is (Word w.Mod)) (falls_written (Word w.Mod) _ (falls_word w.Mod)) (falls_written (Word w.And) _ (falls_word w.And))))

abbrev an_operation : ℕ × Operator → Expr → Operation Expr
an_operation o x = record { at = o.0; operator = o.1; operand = x }

-- ---- what begins and what may follow

abbrev pub factor_begins : Nexts
factor_begins = among (next.Number ∷ next.Text ∷ Word w.Nil ∷ next.Identifier ∷ Symbol s.LeftParen ∷ Word w.Not ∷ Symbol s.LeftBracket ∷ [])

abbrev pub expression_begins : Nexts
expression_begins = among (next.Number ∷ next.Text ∷ Word w.Nil ∷ next.Identifier ∷ Symbol s.LeftParen ∷ Word w.Not ∷ Symbol s.LeftBracket ∷ Symbol s.Plus ∷ Symbol s.Minus ∷ [])

-- what goes on with a factor, a term and a simple expression may not follow them
abbrev pub after_factor : Nexts
after_factor = but (Symbol s.LeftBracket ∷ Symbol s.Dot ∷ Symbol s.Caret ∷ Symbol s.LeftParen ∷ [])

abbrev pub after_term : Nexts
after_term = but (Symbol s.LeftBracket ∷ Symbol s.Dot ∷ Symbol s.Caret ∷ Symbol s.LeftParen ∷ Symbol s.Star ∷ Word w.Div ∷ Word w.Mod ∷ Word w.And ∷ [])

abbrev pub after_simple : Nexts
after_simple =
    but (Symbol s.LeftBracket ∷ Symbol s.Dot ∷ Symbol s.Caret ∷ Symbol s.LeftParen ∷ Symbol s.Star ∷ Word w.Div ∷ Word w.Mod ∷ Word w.And ∷
    Symbol s.Plus ∷ Symbol s.Minus ∷ Word w.Or ∷ [])

-- the laws of what stands behind one more opener
pub record BehindLaws (p : p.Deeper) (r : g.Deeper) : Type 0 where
  pub expression : Law true expression_begins after_expression p.expression r.expression
  pub factor : Law true factor_begins after_factor p.factor r.factor

module _ (room : ℕ) (d : p.Deeper) (r : g.Deeper) (behind : BehindLaws d r) where
  law_index : Law true (is (Symbol s.Comma)) after_expression (expect (Symbol s.Comma) >>= (λ at. selector.Index at <$> d.expression)) (g.further_index room r)
  law_index = law_then (law_symbol s.Comma) (within_any expression_begins) (λ at. law_map (selector.Index at) behind.expression)

  falls_index : Falls (expect (Symbol s.Comma) >>= (λ at. selector.Index at <$> d.expression))
  falls_index = falls_then (falls_symbol s.Comma) (λ at. law_map (selector.Index at) behind.expression)

  indices_behind : (at : ℕ) → Law true expression_begins any (d.expression >>= (λ first. p.further_indices room d (selector.Index at first ∷ []) >>=
      (λ all. expect (Symbol s.RightBracket) >> pure all)))
      (rule.◌>>=◌ r.expression (λ first. rule.◌>>=◌ (rule.many (g.further_index room r)) (λ more.
      rule.◌>>◌ (rule.symbol s.RightBracket) (rule.gives (selector.Index at first ∷ more)))))
  unfolding p.further_index
  indices_behind at =
      law_then behind.expression refl (λ first.
      law_as (map_first _ _ _)
      (law_then (law_many_from (is (Symbol s.Comma)) (is (Symbol s.RightBracket)) law_index falls_index refl refl refl refl refl (selector.Index at first ∷ [])) refl (λ all.
      law_then (law_symbol s.RightBracket) refl (λ z. law_pure all any))))

  abbrev ends_actual : Nexts
  ends_actual = among (Symbol s.Comma ∷ Symbol s.RightParen ∷ [])

  law_width : Law true (is (Symbol s.Colon)) after_expression (p.width room d) (g.width room r)
  unfolding p.width
  law_width =
      law_then (law_symbol s.Colon) (within_any expression_begins) (λ at. law_then behind.expression (within_itself after_expression) (λ value. law_pure _ after_expression))

  law_optional_width : Law true (either (is (Symbol s.Colon)) ends_actual) ends_actual (p.optional_width room d) (rule.optional (g.width room r))
  law_optional_width = law_optional (is (Symbol s.Colon)) ends_actual (law_followed ends_actual refl law_width) refl refl

  law_actual : Law true expression_begins ends_actual (p.actual room d) (g.actual room r)
  unfolding p.actual
  law_actual = law_then behind.expression refl (λ value. law_then law_optional_width (within_itself ends_actual) (λ width. law_pure _ ends_actual))

  actuals_behind : (at : ℕ) → Law true expression_begins any (p.actual room d >>= (λ first.
      p.further_actuals room d (first ∷ []) >>= (λ found. expect (Symbol s.RightParen) >> pure found)))
      (rule.◌>>=◌ (rule.separated (rule.symbol s.Comma) (g.actual room r)) (λ found. rule.◌>>◌ (rule.symbol s.RightParen) (rule.gives found)))
  unfolding p.further_actual
  actuals_behind at =
      law_as (same_sym (then_grouped _ _ _))
      (law_then law_actual refl (λ first.
      law_then (law_many_from (is (Symbol s.Comma)) (is (Symbol s.RightParen)) (law_further (kind.Symbol s.Comma) (symbol_only s.Comma) law_actual)
      (falls_further (kind.Symbol s.Comma) (symbol_only s.Comma) law_actual) refl refl refl refl refl (first ∷ [])) refl (λ found.
      law_then (law_symbol s.RightParen) refl (λ z. law_pure found any))))

  abbrev ends_member : Nexts
  ends_member = among (Symbol s.Comma ∷ Symbol s.RightBracket ∷ [])

  law_last_member : Law true (either (is (Symbol s.DotDot)) ends_member) ends_member (p.last_member room d) (rule.optional (rule.◌>>◌ (rule.symbol s.DotDot) r.expression))
  unfolding p.last_member
  law_last_member =
      law_optional (is (Symbol s.DotDot)) ends_member (law_then (law_symbol s.DotDot) (within_any expression_begins)
      (λ at. law_followed ends_member refl behind.expression)) refl refl

  law_member : Law true expression_begins ends_member (p.member room d) (g.member room r)
  unfolding p.member
  law_member = law_then behind.expression refl (λ first. law_then law_last_member (within_itself ends_member) (λ last. law_pure _ ends_member))

  law_some_members : Law true expression_begins (is (Symbol s.RightBracket)) (p.some_members room d) (rule.separated (rule.symbol s.Comma) (g.member room r))
  unfolding p.some_members p.further_member
  law_some_members = law_separated (kind.Symbol s.Comma) (symbol_only s.Comma) (is (Symbol s.RightBracket)) law_member refl refl refl

  law_members : Law true (either (is (Symbol s.RightBracket)) expression_begins) (is (Symbol s.RightBracket)) (p.members room d)
      (rule.◌<|>◌ (rule.separated (rule.symbol s.Comma) (g.member room r)) (rule.gives []))
  law_members = law_as (or_swapped _ _) (law_branch (is (Symbol s.RightBracket)) (law_pure [] (is (Symbol s.RightBracket))) refl refl law_some_members)

  set_behind : (at : ℕ) → Law true (either (is (Symbol s.RightBracket)) expression_begins) any
      (p.members room d >>= (λ members. expect (Symbol s.RightBracket) >> pure (e.Set at members)))
      (rule.◌>>=◌ (rule.◌<|>◌ (rule.separated (rule.symbol s.Comma) (g.member room r)) (rule.gives []))
      (λ members. rule.◌>>◌ (rule.symbol s.RightBracket) (rule.gives (e.Set at members))))
  set_behind at = law_then law_members (within_itself (is (Symbol s.RightBracket))) (λ members. law_then (law_symbol s.RightBracket) refl (λ z. law_pure _ any))

  parenthesized_behind : (at : ℕ) → Law true expression_begins any (d.expression >>= (λ x. expect (Symbol s.RightParen) >> pure (e.Inside at x)))
      (rule.◌>>=◌ r.expression (λ x. rule.◌>>◌ (rule.symbol s.RightParen) (rule.gives (e.Inside at x))))
  parenthesized_behind at = law_then behind.expression refl (λ x. law_then (law_symbol s.RightParen) refl (λ z. law_pure _ any))

  negation_behind : (at : ℕ) → Law true factor_begins after_factor (d.factor >>= (λ x. pure (e.Not at x))) (rule.◌>>=◌ r.factor (λ x. rule.gives (e.Not at x)))
  negation_behind at = law_then behind.factor (within_itself after_factor) (λ x. law_pure _ after_factor)

module _ (room : ℕ) (d : p.Deeper) (r : g.Deeper) (behind : (n : ℕ) → room ≡ suc n → BehindLaws d r) where
  -- ---- selectors

  law_index_list : Law (has_room room) (is (Symbol s.LeftBracket)) any (p.index_list room d) (g.index_list room r)
  unfolding p.index_list
  law_index_list = law_opened_symbol s.LeftBracket room (λ n e. indices_behind room d r (behind n e))

  falls_index_list : Falls (p.index_list room d)
  unfolding p.index_list
  falls_index_list = falls_opened (kind.Symbol s.LeftBracket) (symbol_only s.LeftBracket) room (λ n e. indices_behind room d r (behind n e))

  law_field_selection : Law true (is (Symbol s.Dot)) any p.field_selection (g.field_selection room r)
  unfolding p.field_selection
  law_field_selection = law_then (law_symbol s.Dot) refl (λ at. law_then law_identifier refl (λ name. law_pure _ any))

  law_pointer_selection : Law true (is (Symbol s.Caret)) any p.pointer_selection (g.pointer_selection room r)
  unfolding p.pointer_selection
  law_pointer_selection = law_then (law_symbol s.Caret) refl (λ at. law_pure _ any)

  law_selection : Law true p.selecting any (p.selection room d) (rule.◌<|>◌ (g.index_list room r) (rule.◌<|>◌ (g.field_selection room r) (g.pointer_selection room r)))
  law_selection =
      law_begun p.selecting refl (law_branch (is (Symbol s.LeftBracket)) law_index_list refl refl
      (law_branch (is (Symbol s.Dot)) law_field_selection refl refl law_pointer_selection))

  falls_field : Falls p.field_selection
  unfolding p.field_selection
  falls_field = falls_then (falls_symbol s.Dot) (λ at. law_then law_identifier refl (λ name. law_pure _ any))

  falls_pointer : Falls p.pointer_selection
  unfolding p.pointer_selection
  falls_pointer = falls_then (falls_symbol s.Caret) (λ at. law_pure _ any)

  falls_selection : Falls (p.selection room d)
  falls_selection = falls_branch (is (Symbol s.LeftBracket)) falls_index_list (falls_branch (is (Symbol s.Dot)) falls_field falls_pointer)

  -- before any tokens that do not go on with it
  law_selections : (follow : Nexts) → apart follow p.selecting ≡ true → Law true (either p.selecting follow) follow (p.selections room d)
      (rule.many_lists (rule.◌<|>◌ (g.index_list room r) (rule.◌<|>◌ (g.field_selection room r) (g.pointer_selection room r))))
  unfolding p.further_selection
  law_selections follow e = law_many_lists p.selecting follow law_selection falls_selection refl e refl (within_any follow) refl

  -- behind a name
  abbrev pub access_behind_rule : Identifier → Rule (Access Expr)
  access_behind_rule name =
      rule.◌>>=◌ (rule.many_lists (rule.◌<|>◌ (g.index_list room r) (rule.◌<|>◌ (g.field_selection room r) (g.pointer_selection room r))))
      (λ selectors. rule.gives (record { name = name; selectors = selectors }))

  pub law_access_behind_with : (name : Identifier) (follow : Nexts) → apart follow p.selecting ≡ true →
      Law true (either p.selecting follow) follow (p.access_behind_with room d name) (access_behind_rule name)
  unfolding p.access_behind_with
  law_access_behind_with name follow e = law_then (law_selections follow e) (within_itself follow) (λ selectors. law_pure _ follow)

  -- ---- actual parameters

  pub law_actuals_with : Law (has_room room) (is (Symbol s.LeftParen)) any (p.actuals_with room d) (g.actuals_with room r)
  unfolding p.actuals_with
  law_actuals_with = law_opened_symbol s.LeftParen room (λ n e. actuals_behind room d r (behind n e))

  -- ---- factors

  law_set : Law (has_room room) (is (Symbol s.LeftBracket)) any (p.set_constructor room d) (g.set_constructor room r)
  unfolding p.set_constructor
  law_set = law_opened_symbol s.LeftBracket room (λ n e. set_behind room d r (behind n e))

  law_parenthesized : Law (has_room room) (is (Symbol s.LeftParen)) any (p.parenthesized room d) (g.parenthesized room r)
  unfolding p.parenthesized
  law_parenthesized = law_opened_symbol s.LeftParen room (λ n e. parenthesized_behind room d r (behind n e))

  law_negation : Law (has_room room) (is (Word w.Not)) after_factor (p.negation room d) (g.negation room r)
  unfolding p.negation
  law_negation = law_opened_word w.Not refl room (λ n e. negation_behind room d r (behind n e))

  law_named : Law true (is next.Identifier) after_factor (p.named room d) (rule.◌<|>◌ (rule.◌<$>◌ e.Access (g.access_with room r)) (g.function_call room r))
  unfolding p.named
  law_named =
      law_as (same_trans (factored _ _ _) (same_trans (or_swapped _ _) (same_or (same_sym (then_grouped _ _ _)) (same_refl _))))
      (law_then law_identifier (within_any (either (is (Symbol s.LeftParen)) (either p.selecting after_factor))) (λ name.
      law_branch (is (Symbol s.LeftParen)) (law_followed after_factor (within_any after_factor) (law_map (e.Call name) law_actuals_with)) refl refl
      (law_map e.Access (law_access_behind_with name after_factor refl))))

  law_factor_with : Law true factor_begins after_factor (p.factor_with room d) (g.factor_with room r)
  unfolding p.factor_with
  law_factor_with =
      law_begun factor_begins refl
      (law_branch_first (is next.Number) (law_followed after_factor refl (law_map e.Number law_number)) refl refl
      (law_branch (is next.Text) (law_followed after_factor refl (law_map e.Text law_string)) refl refl
      (law_branch (is (Word w.Nil)) (law_followed after_factor refl (law_map e.Nil (law_word w.Nil))) refl refl
      (law_as (or_grouped _ _ _)
      (law_branch (is next.Identifier) law_named refl refl
      (law_branch (is (Symbol s.LeftParen)) (law_followed after_factor refl law_parenthesized) refl refl
      (law_branch (is (Word w.Not)) law_negation refl refl (law_followed after_factor refl law_set))))))))

  -- ---- expressions

  -- of what an operator stands before
  module _ {f inner h : Nexts} {o : Parser (ℕ × Operator)} {q : Parser Expr} {b : Rule (ℕ × Operator)} {c : Rule Expr} (operator : Law true f any o b)
      (falls : Falls o) (operand : Law true inner h q c) where
    operand_behind : (x : ℕ × Operator) → Law true inner h (q >>= (λ y. pure (an_operation x y))) (rule.◌>>=◌ c (λ y. rule.gives (an_operation x y)))
    operand_behind x = law_then operand (within_itself h) (λ y. law_pure _ h)

    law_operation : Law true f h (p.operation o q) (g.operation b c)
    law_operation = law_then operator (within_any inner) operand_behind

    falls_operation : Falls (p.operation o q)
    falls_operation = falls_then falls operand_behind

  law_further_factors : Law true (either multiplying after_term) after_term (p.further_factors room d) (rule.many (g.operation g.multiplying_operator (g.factor_with room r)))
  unfolding p.further_factor
  law_further_factors =
      law_many multiplying after_term (law_operation law_multiplying falls_multiplying law_factor_with)
      (falls_operation law_multiplying falls_multiplying law_factor_with) refl refl refl refl refl

  law_term : Law true factor_begins after_term (p.term room d) (g.term room r)
  unfolding p.term
  law_term = law_then law_factor_with refl (λ first. law_then law_further_factors (within_itself after_term) (λ more. law_pure _ after_term))

  law_further_terms : Law true (either adding after_simple) after_simple (p.further_terms room d) (rule.many (g.operation g.adding_operator (g.term room r)))
  unfolding p.further_term
  law_further_terms = law_many adding after_simple (law_operation law_adding falls_adding law_term) (falls_operation law_adding falls_adding law_term) refl refl refl refl refl

  law_simple : Law true expression_begins after_simple (p.simple_expression room d) (g.simple_expression room r)
  unfolding p.simple_expression
  law_simple =
      law_begun expression_begins refl
      (law_then (law_optional_sign factor_begins refl) (within_itself factor_begins) (λ sign.
      law_then law_term refl (λ first. law_then law_further_terms (within_itself after_simple) (λ more. law_pure _ after_simple))))

  law_expression_with : Law true expression_begins after_expression (p.expression_with room d) (g.expression_with room r)
  unfolding p.expression_with p.related
  law_expression_with =
      law_then law_simple refl (λ left.
      law_then (law_optional relational after_expression (law_followed after_expression refl
      (law_operation law_relational falls_relational law_simple)) refl refl) (within_itself after_expression) (λ right.
      law_pure _ after_expression))

-- ---- the laws, where so many more openers may stand open

pub laws_behind : (room : ℕ) → BehindLaws (p.behind (suc room)) (g.behind (suc room))
unfolding p.behind g.behind
laws_behind zero = record { expression = law_expression_with zero (p.behind zero) (g.behind zero) no_room; factor = law_factor_with zero (p.behind zero) (g.behind zero) no_room }
  where
    no_room : (n : ℕ) → zero ≡ suc n → BehindLaws (p.behind zero) (g.behind zero)
    no_room n e = absurd (let z : ⊥ = cc in z)
laws_behind (suc room) = record {
  expression = law_expression_with (suc room) (p.behind (suc room)) (g.behind (suc room)) (λ n e. laws_behind room);
  factor = law_factor_with (suc room) (p.behind (suc room)) (g.behind (suc room)) (λ n e. laws_behind room);
}

-- behind an opener for which there is room
pub laws_inside : (room n : ℕ) → room ≡ suc n → BehindLaws (p.behind room) (g.behind room)
laws_inside zero n e = absurd (let z : ⊥ = cc in z)
laws_inside (suc room) n e = laws_behind room

pub law_expression : (room : ℕ) → Law true expression_begins after_expression (p.expression room) (g.expression room)
law_expression room = law_expression_with room (p.behind room) (g.behind room) (laws_inside room)

-- a variable behind its name
abbrev pub access_behind_rule_at : ℕ → Identifier → Rule (Access Expr)
access_behind_rule_at room name = access_behind_rule room (p.behind room) (g.behind room) (laws_inside room) name

pub law_access_behind : (room : ℕ) (name : Identifier) (follow : Nexts) → apart follow p.selecting ≡ true →
    Law true (either p.selecting follow) follow (p.access_behind room name) (access_behind_rule_at room name)
law_access_behind room = law_access_behind_with room (p.behind room) (g.behind room) (laws_inside room)

pub law_access : (room : ℕ) (follow : Nexts) → apart follow p.selecting ≡ true → Law true (is next.Identifier) follow (p.access room) (g.access room)
unfolding p.access
law_access room follow e = law_then law_identifier (within_any (either p.selecting follow)) (λ name. law_access_behind room name follow e)

pub law_actuals : (room : ℕ) → Law (has_room room) (is (Symbol s.LeftParen)) any (p.actuals room) (g.actuals room)
law_actuals room = law_actuals_with room (p.behind room) (g.behind room) (laws_inside room)
