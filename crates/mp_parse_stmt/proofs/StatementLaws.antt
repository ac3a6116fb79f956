-- The laws of statements: the parser reads exactly what the grammar allows.
use Rattle.std.proofs.Common.{◌≡◌, true, ℕ, zero, suc, [], ◌∷◌, refl}
use Rattle.mp_ast.specs.declared.tokens.TokenKind.TheVariants as kind
use Rattle.mp_ast.specs.declared.words.WordSymbol.TheVariants as w
use Rattle.mp_ast.specs.declared.symbols.Symbol.TheVariants as s
use Rattle.mp_ast.specs.declared.leaves.Identifier.{Identifier}
use Rattle.mp_ast.specs.declared.statements.Statement.{Statement}
use Rattle.mp_ast.specs.declared.statements.Statement.TheVariants as t
use Rattle.mp_ast.specs.Rules.{Rule}
use Rattle.mp_ast.specs.Rules as rule
use Rattle.mp_ast.specs.ExpressionGrammar as e
use Rattle.mp_ast.specs.StatementGrammar as g
use Rattle.mp_cursor.specs.declared.next.Next.TheVariants as next
use Rattle.mp_cursor.specs.declared.next.Next.TheVariants.{Word, Symbol}
use Rattle.mp_cursor.specs.Nexts.{Nexts, is, any, either, among}
use Rattle.mp_cursor.specs.Parsers.{Parser, ◌<$>◌, here}
use Rattle.mp_cursor.specs.LeafTokens.{constant_begins}
use Rattle.mp_cursor.proofs.NextSets.{within_any, within_itself}
use Rattle.mp_cursor.proofs.RuleLaws.{Law, law_pure, law_then, law_map, law_followed, law_begun, law_as, law_here, law_word, law_symbol, symbol_only}
use Rattle.mp_cursor.proofs.SameRules.{same_refl, same_sym, same_trans, same_or, or_swapped, then_grouped, factored, behind_list}
use Rattle.mp_cursor.proofs.LeafLaws.{law_identifier, law_number, has_room, law_opened_word}
use Rattle.mp_cursor.proofs.ChoiceLaws.{law_branch}
use Rattle.mp_cursor.proofs.ListLaws.{law_separated}
use Rattle.mp_cursor.proofs.SeriesLaws.{law_series}
use Rattle.mp_cursor.proofs.ConstantLaws.{law_constants}
use Rattle.mp_parse_expr.specs.ExpressionFollows.{after_access, after_expression}
use Rattle.mp_parse_expr.proofs.ExpressionLaws.{expression_begins, law_expression, law_access, law_access_behind, access_behind_rule_at, law_actuals}
use Rattle.mp_parse_stmt.specs.Statements as p
use Rattle.mp_parse_stmt.specs.Statements.{after_statement, after_sequence}
use Rattle.mp_parse_stmt.proofs.ElseLaws.{law_else_part}
use Rattle.mp_parse_stmt.proofs.ChoiceOrder.{same_choices}

-- ---- what begins and what may follow

-- what a statement without a label begins with; an empty one stands before what may follow it
abbrev pub unlabelled_begins : Nexts
unlabelled_begins =
    either (among (next.Identifier ∷ Word w.Goto ∷ Word w.Begin ∷ Word w.If ∷ Word w.Case ∷ Word w.While ∷ Word w.Repeat ∷ Word w.For ∷ Word w.With ∷ [])) after_statement

abbrev pub statement_begins : Nexts
statement_begins = either (is next.Number) unlabelled_begins

-- ---- simple statements

module _ (room : ℕ) where
  law_assignment_behind : (name : Identifier) → Law true p.assigning after_statement (p.assignment_behind room name)
      (rule.◌>>=◌ (access_behind_rule_at room name) (λ variable. rule.◌>>=◌ (rule.symbol s.Assign)
      (λ at. rule.◌>>=◌ (e.expression room) (λ value. rule.gives (t.Assign variable at value)))))
  unfolding p.assignment_behind
  law_assignment_behind name =
      law_begun p.assigning refl
      (law_then (law_access_behind room name (is (Symbol s.Assign)) refl) (within_itself (is (Symbol s.Assign))) (λ variable.
      law_then (law_symbol s.Assign) (within_any expression_begins) (λ at.
      law_then (law_followed after_statement refl (law_expression room)) (within_itself after_statement) (λ value.
      law_pure _ after_statement))))

  law_call_behind : (name : Identifier) → Law true (either (is (Symbol s.LeftParen)) after_statement) after_statement (p.call_behind room name)
      (rule.◌>>=◌ (rule.◌<|>◌ (e.actuals room) (rule.gives [])) (λ given. rule.gives (t.Call name given)))
  law_call_behind name =
      law_map (t.Call name)
      (law_branch (is (Symbol s.LeftParen)) (law_followed after_statement (within_any after_statement) (law_actuals room)) refl refl (law_pure [] after_statement))

  law_named : (r : g.Deeper) → Law true (is next.Identifier) after_statement (p.named room) (rule.◌<|>◌ (g.assignment room r) (g.procedure_call room r))
  unfolding p.named
  law_named r =
      law_as (same_trans (factored _ _ _) (same_or (same_sym (then_grouped _ _ _)) (same_refl _)))
      (law_then law_identifier (within_any (either p.assigning (either (is (Symbol s.LeftParen)) after_statement))) (λ name.
      law_branch p.assigning (law_assignment_behind name) refl refl (law_call_behind name)))

  law_goto : (r : g.Deeper) → Law true (is (Word w.Goto)) any p.goto_statement (g.goto_statement room r)
  unfolding p.goto_statement
  law_goto r = law_then (law_word w.Goto) (within_any (is next.Number)) (λ at. law_then law_number refl (λ label. law_pure _ any))

-- ---- heads

abbrev directing : Nexts
directing = among (Word w.To ∷ Word w.Downto ∷ [])

law_direction : Law true directing any p.direction (rule.◌<|>◌ g.upward g.downward)
unfolding p.direction
law_direction =
    law_begun directing refl
    (law_branch (is (Word w.To)) (law_then (law_word w.To) refl (λ at. law_pure _ any)) refl refl (law_then (law_word w.Downto) refl (λ at. law_pure _ any)))

-- ---- sequences

pub law_sequence_of : {statement : Parser Statement} {r : Rule Statement} → Law true statement_begins after_statement statement r →
    Law true statement_begins after_sequence (p.sequence statement) (g.sequence r)
unfolding p.sequence p.further_statement
law_sequence_of a = law_separated (kind.Symbol s.Semicolon) (symbol_only s.Semicolon) after_sequence a refl refl refl

-- the laws of what stands behind one more opener
pub record BehindLaws (d : p.Deeper) (r : g.Deeper) : Type 0 where
  pub expression : Law true expression_begins after_expression d.expression r.expression
  pub access : Law true (is next.Identifier) after_access d.access r.access
  pub statement : Law true statement_begins after_statement d.statement r.statement

module _ (room : ℕ) (d : p.Deeper) (r : g.Deeper) (behind : BehindLaws d r) where
  law_for_head : Law true (is next.Identifier) after_expression (p.for_head d.expression) (g.for_head r.expression)
  unfolding p.for_head
  law_for_head =
      law_then law_identifier (within_any (is (Symbol s.Assign))) (λ variable.
      law_then (law_symbol s.Assign) (within_any expression_begins) (λ assign.
      law_then behind.expression refl (λ first.
      law_then law_direction (within_any expression_begins) (λ direction.
      law_then behind.expression (within_itself after_expression) (λ last.
      law_pure _ after_expression)))))

  law_records : Law true (is next.Identifier) (is (Word w.Do)) (p.records d.access) (rule.separated (rule.symbol s.Comma) r.access)
  law_records = law_separated (kind.Symbol s.Comma) (symbol_only s.Comma) (is (Word w.Do)) behind.access refl refl refl

  -- ---- what has statements in it

  law_arm : Law true constant_begins after_statement (p.arm d.statement) (g.arm r.statement)
  unfolding p.arm
  law_arm =
      law_then law_constants refl (λ constants.
      law_then (law_symbol s.Colon) (within_any statement_begins) (λ at.
      law_then behind.statement (within_itself after_statement) (λ body.
      law_pure _ after_statement)))

  law_arms : Law true constant_begins (is (Word w.End)) (p.arms d.statement)
      (rule.◌>>=◌ (rule.separated (rule.symbol s.Semicolon) (g.arm r.statement)) (λ arms. rule.◌>>◌ (rule.optional (rule.symbol s.Semicolon)) (rule.gives arms)))
  unfolding p.arms p.further_arm
  law_arms = law_series (kind.Symbol s.Semicolon) (symbol_only s.Semicolon) constant_begins (is (Word w.End)) law_arm (within_itself constant_begins) refl refl refl refl

module _ (room : ℕ) (d : p.Deeper) (r : g.Deeper) (behind : (n : ℕ) → room ≡ suc n → BehindLaws d r) where
  -- ---- structured statements

  law_compound : Law (has_room room) (is (Word w.Begin)) any (p.compound_statement room d) (g.compound_statement room r)
  unfolding p.compound_statement
  law_compound =
      law_opened_word w.Begin refl room (λ n e at.
      law_then (law_sequence_of (behind n e).statement) refl (λ statements.
      law_then (law_word w.End) refl (λ z. law_pure _ any)))

  law_if : Law (has_room room) (is (Word w.If)) after_statement (p.if_statement room d) (g.if_statement room r)
  unfolding p.if_statement
  law_if =
      law_opened_word w.If refl room (λ n e at.
      law_then (behind n e).expression refl (λ condition.
      law_then (law_word w.Then) (within_any statement_begins) (λ z.
      law_then (behind n e).statement refl (λ first.
      law_then (law_else_part after_statement (behind n e).statement) (within_itself after_statement) (λ second.
      law_pure _ after_statement)))))

  law_case : Law (has_room room) (is (Word w.Case)) any (p.case_statement room d) (g.case_statement room r)
  unfolding p.case_statement
  law_case =
      law_opened_word w.Case refl room (λ n e at.
      law_then (behind n e).expression refl (λ index.
      law_then (law_word w.Of) (within_any constant_begins) (λ z.
      law_as (behind_list _ _ _) (law_then (law_arms room d r (behind n e)) refl (λ arms.
      law_then (law_word w.End) refl (λ z. law_pure _ any))))))

  law_while : Law (has_room room) (is (Word w.While)) after_statement (p.while_statement room d) (g.while_statement room r)
  unfolding p.while_statement
  law_while =
      law_opened_word w.While refl room (λ n e at.
      law_then (behind n e).expression refl (λ condition.
      law_then (law_word w.Do) (within_any statement_begins) (λ z.
      law_then (behind n e).statement (within_itself after_statement) (λ body.
      law_pure _ after_statement))))

  law_repeat : Law (has_room room) (is (Word w.Repeat)) after_statement (p.repeat_statement room d) (g.repeat_statement room r)
  unfolding p.repeat_statement
  law_repeat =
      law_opened_word w.Repeat refl room (λ n e at.
      law_then (law_sequence_of (behind n e).statement) refl (λ statements.
      law_then (law_word w.Until) (within_any expression_begins) (λ z.
      law_then (law_followed after_statement refl (behind n e).expression) (within_itself after_statement) (λ condition.
      law_pure _ after_statement))))

  law_for : Law (has_room room) (is (Word w.For)) after_statement (p.for_statement room d) (g.for_statement room r)
  unfolding p.for_statement
  law_for =
      law_opened_word w.For refl room (λ n e at.
      law_then (law_for_head room d r (behind n e)) refl (λ head.
      law_then (law_word w.Do) (within_any statement_begins) (λ z.
      law_then (behind n e).statement (within_itself after_statement) (λ body.
      law_pure _ after_statement))))

  law_with : Law (has_room room) (is (Word w.With)) after_statement (p.with_statement room d) (g.with_statement room r)
  unfolding p.with_statement
  law_with =
      law_opened_word w.With refl room (λ n e at.
      law_then (law_records room d r (behind n e)) refl (λ records.
      law_then (law_word w.Do) (within_any statement_begins) (λ z.
      law_then (behind n e).statement (within_itself after_statement) (λ body.
      law_pure _ after_statement))))

  -- ---- statements

  law_empty : Law true after_statement after_statement (t.Empty <$> here) (g.empty_statement room r)
  law_empty = law_map t.Empty (law_here after_statement)

  -- the empty statement, which the grammar names first, is what is left
  law_unlabelled : Law true unlabelled_begins after_statement (p.unlabelled room d) (g.unlabelled room r)
  unfolding p.unlabelled
  law_unlabelled =
      law_begun unlabelled_begins refl
      (law_as (same_choices room r)
      (law_branch (is next.Identifier) (law_named room r) refl refl
      (law_branch (is (Word w.Goto)) (law_followed after_statement (within_any after_statement) (law_goto room r)) refl refl
      (law_branch (is (Word w.Begin)) (law_followed after_statement (within_any after_statement) law_compound) refl refl
      (law_branch (is (Word w.If)) law_if refl refl
      (law_branch (is (Word w.Case)) (law_followed after_statement (within_any after_statement) law_case) refl refl
      (law_branch (is (Word w.While)) law_while refl refl
      (law_branch (is (Word w.Repeat)) law_repeat refl refl
      (law_branch (is (Word w.For)) law_for refl refl
      (law_branch (is (Word w.With)) law_with refl refl law_empty))))))))))

  law_labelled : Law true (is next.Number) after_statement (p.labelled room d) (g.labelled room r)
  unfolding p.labelled
  law_labelled =
      law_then law_number (within_any (is (Symbol s.Colon))) (λ label.
      law_then (law_symbol s.Colon) (within_any unlabelled_begins) (λ z.
      law_map (t.Labelled label) law_unlabelled))

  law_statement_with : Law true statement_begins after_statement (p.statement_with room d) (g.statement_with room r)
  unfolding p.statement_with
  law_statement_with = law_begun statement_begins refl (law_as (or_swapped _ _) (law_branch (is next.Number) law_labelled refl refl law_unlabelled))

-- ---- the laws, where so many more openers may stand open

pub laws_behind : (room : ℕ) → BehindLaws (p.behind (suc room)) (g.behind (suc room))
unfolding p.behind g.behind
laws_behind zero = record {
  expression = law_expression zero;
  access = law_access zero after_access refl;
  statement = law_statement_with zero (p.behind zero) (g.behind zero) no_room;
}
  where
    no_room : (n : ℕ) → zero ≡ suc n → BehindLaws (p.behind zero) (g.behind zero)
    no_room n e = absurd (let z : ⊥ = cc in z)
laws_behind (suc room) = record {
  expression = law_expression (suc room);
  access = law_access (suc room) after_access refl;
  statement = law_statement_with (suc room) (p.behind (suc room)) (g.behind (suc room)) (λ n e. laws_behind room);
}

-- behind an opener for which there is room
pub laws_inside : (room n : ℕ) → room ≡ suc n → BehindLaws (p.behind room) (g.behind room)
laws_inside zero n e = absurd (let z : ⊥ = cc in z)
laws_inside (suc room) n e = laws_behind room

pub law_statement : (room : ℕ) → Law true statement_begins after_statement (p.statement room) (g.statement room)
law_statement room = law_statement_with room (p.behind room) (g.behind room) (laws_inside room)

pub law_sequence : (room : ℕ) → Law true statement_begins after_sequence (p.sequence (p.statement room)) (g.sequence (g.statement room))
law_sequence room = law_sequence_of (law_statement room)

-- the same behind one more opener, as in a block
pub law_sequence_behind : (room n : ℕ) → room ≡ suc n → Law true statement_begins after_sequence (p.sequence (p.behind room).statement) (g.sequence (g.behind room).statement)
law_sequence_behind room n e = law_sequence_of (laws_inside room n e).statement
