-- Parsers of statements under higher limits.
use Rattle.std.proofs.Common.{ℕ, zero, suc, refl}
use Rattle.mp_ast.specs.declared.words.WordSymbol.TheVariants as w
use Rattle.mp_ast.specs.declared.symbols.Symbol.TheVariants as s
use Rattle.mp_ast.specs.declared.expressions.Access.{Access}
use Rattle.mp_ast.specs.declared.expressions.Expr.{Expr}
use Rattle.mp_ast.specs.declared.statements.Statement.{Statement}
use Rattle.mp_cursor.specs.declared.next.Next.TheVariants as next
use Rattle.mp_cursor.specs.declared.next.Next.TheVariants.{Word, Symbol}
use Rattle.mp_cursor.specs.Nexts.{is}
use Rattle.mp_cursor.specs.Parsers.{Parser}
use Rattle.mp_parse_stmt.specs.Statements as p
use Rattle.mp_parse.proofs.Raised.{Counting, Raises, Limit, Behind, raised_pure, raised_refuse, raised_here, raised_expect, raised_identifier}
use Rattle.mp_parse.proofs.Raised.{raised_number, raised_then, raised_map, raised_branch, raised_optional, raised_repeated, raised_series}
use Rattle.mp_parse.proofs.Raised.{raised_constants, raised_granted, raised_never, raised_refused, raised_opened, less, no_room, not_higher}
use Rattle.mp_parse.proofs.RaisedExpressions.{raised_expression, raised_access, raised_access_behind, raised_actuals}

module _ {Same Higher More : Type 0} {count : Counting} where
  -- ---- simple statements

  module _ (room high : ℕ) where
    raised_named : Raises Same Higher More count (Limit Same Higher room high) (p.named room) (p.named high)
    unfolding p.named p.assignment_behind
    raised_named =
        raised_then raised_identifier (λ name.
        raised_branch p.assigning (raised_then (raised_access_behind room high name) (λ variable.
        raised_then (raised_expect _) (λ at. raised_then (raised_expression room high) (λ value. raised_pure))))
        (raised_map _ (raised_branch (is (Symbol s.LeftParen)) (raised_actuals room high) raised_pure)))

  module _ {G : Type 0} where
    raised_goto : Raises Same Higher More count G p.goto_statement p.goto_statement
    unfolding p.goto_statement
    raised_goto = raised_then (raised_expect _) (λ at. raised_then raised_number (λ label. raised_pure))

    -- ---- heads

    raised_direction : Raises Same Higher More count G p.direction p.direction
    unfolding p.direction
    raised_direction = raised_branch (is (Word w.To)) (raised_then (raised_expect _) (λ at. raised_pure)) (raised_then (raised_expect _) (λ at. raised_pure))

    raised_for_head : {e f : Parser Expr} → Raises Same Higher More count G e f → Raises Same Higher More count G (p.for_head e) (p.for_head f)
    unfolding p.for_head
    raised_for_head a =
        raised_then raised_identifier (λ variable. raised_then (raised_expect _) (λ assign.
        raised_then a (λ first. raised_then raised_direction (λ way. raised_then a (λ last. raised_pure)))))

    raised_records : {a b : Parser (Access Expr)} → Raises Same Higher More count G a b → Raises Same Higher More count G (p.records a) (p.records b)
    raised_records a = raised_then a (λ first. raised_repeated _ _ (λ found. raised_map _ (raised_then (raised_expect _) (λ at. a))))

    -- ---- what has statements in it

    pub raised_sequence : {a b : Parser Statement} → Raises Same Higher More count G a b → Raises Same Higher More count G (p.sequence a) (p.sequence b)
    unfolding p.sequence p.further_statement
    raised_sequence a = raised_then a (λ first. raised_repeated _ _ (λ found. raised_map _ (raised_then (raised_expect _) (λ at. a))))

    raised_else : {a b : Parser Statement} → Raises Same Higher More count G a b → Raises Same Higher More count G (p.else_part a) (p.else_part b)
    unfolding p.else_part
    raised_else a = raised_optional (is (Word w.Else)) (raised_then (raised_expect _) (λ at. a))

    raised_arm : {a b : Parser Statement} → Raises Same Higher More count G a b → Raises Same Higher More count G (p.arm a) (p.arm b)
    unfolding p.arm
    raised_arm a = raised_then raised_constants (λ found. raised_then (raised_expect _) (λ z. raised_then a (λ body. raised_pure)))

    raised_arms : {a b : Parser Statement} → Raises Same Higher More count G a b → Raises Same Higher More count G (p.arms a) (p.arms b)
    unfolding p.arms p.further_arm
    raised_arms a = raised_then (raised_arm a) (λ first. raised_series _ _ _ (λ found. raised_map _ (raised_arm a)))

-- what stands behind one more opener
pub record DeeperRaises (Same Higher More : Type 0) (count : Counting) (G : Type 0) (b c : p.Deeper) : Type 0 where
  pub expression : Raises Same Higher More count G b.expression c.expression
  pub access : Raises Same Higher More count G b.access c.access
  pub statement : Raises Same Higher More count G b.statement c.statement

module _ {Same Higher More : Type 0} {count : Counting} (room high : ℕ) (b c : p.Deeper) (d : DeeperRaises Same Higher More count (Behind Same Higher room high) b c) where
  -- ---- structured statements

  raised_compound : Raises Same Higher More count (Limit Same Higher room high) (p.compound_statement room b) (p.compound_statement high c)
  unfolding p.compound_statement
  raised_compound = raised_opened (Word w.Begin) refl room high (λ at. raised_then (raised_sequence d.statement) (λ statements. raised_then (raised_expect _) (λ z. raised_pure)))

  raised_if : Raises Same Higher More count (Limit Same Higher room high) (p.if_statement room b) (p.if_statement high c)
  unfolding p.if_statement
  raised_if =
      raised_opened (Word w.If) refl room high (λ at. raised_then d.expression (λ condition. raised_then (raised_expect _) (λ z.
      raised_then d.statement (λ first. raised_then (raised_else d.statement) (λ second. raised_pure)))))

  raised_case : Raises Same Higher More count (Limit Same Higher room high) (p.case_statement room b) (p.case_statement high c)
  unfolding p.case_statement
  raised_case =
      raised_opened (Word w.Case) refl room high (λ at. raised_then d.expression (λ index. raised_then (raised_expect _) (λ z.
      raised_then (raised_arms d.statement) (λ found. raised_then (raised_expect _) (λ z. raised_pure)))))

  raised_while : Raises Same Higher More count (Limit Same Higher room high) (p.while_statement room b) (p.while_statement high c)
  unfolding p.while_statement
  raised_while =
      raised_opened (Word w.While) refl room high (λ at. raised_then d.expression (λ condition.
      raised_then (raised_expect _) (λ z. raised_then d.statement (λ body. raised_pure))))

  raised_repeat : Raises Same Higher More count (Limit Same Higher room high) (p.repeat_statement room b) (p.repeat_statement high c)
  unfolding p.repeat_statement
  raised_repeat =
      raised_opened (Word w.Repeat) refl room high (λ at. raised_then (raised_sequence d.statement)
      (λ statements. raised_then (raised_expect _) (λ z. raised_then d.expression (λ condition. raised_pure))))

  raised_for : Raises Same Higher More count (Limit Same Higher room high) (p.for_statement room b) (p.for_statement high c)
  unfolding p.for_statement
  raised_for =
      raised_opened (Word w.For) refl room high (λ at. raised_then (raised_for_head d.expression)
      (λ head. raised_then (raised_expect _) (λ z. raised_then d.statement (λ body. raised_pure))))

  raised_with : Raises Same Higher More count (Limit Same Higher room high) (p.with_statement room b) (p.with_statement high c)
  unfolding p.with_statement
  raised_with =
      raised_opened (Word w.With) refl room high (λ at. raised_then (raised_records d.access)
      (λ found. raised_then (raised_expect _) (λ z. raised_then d.statement (λ body. raised_pure))))

  -- ---- statements

  raised_unlabelled : Raises Same Higher More count (Limit Same Higher room high) (p.unlabelled room b) (p.unlabelled high c)
  unfolding p.unlabelled
  raised_unlabelled =
      raised_branch (is next.Identifier) (raised_named room high)
      (raised_branch (is (Word w.Goto)) raised_goto
      (raised_branch (is (Word w.Begin)) raised_compound
      (raised_branch (is (Word w.If)) raised_if
      (raised_branch (is (Word w.Case)) raised_case
      (raised_branch (is (Word w.While)) raised_while
      (raised_branch (is (Word w.Repeat)) raised_repeat
      (raised_branch (is (Word w.For)) raised_for
      (raised_branch (is (Word w.With)) raised_with (raised_map _ raised_here)))))))))

  raised_statement_with : Raises Same Higher More count (Limit Same Higher room high) (p.statement_with room b) (p.statement_with high c)
  unfolding p.statement_with p.labelled
  raised_statement_with =
      raised_branch (is next.Number) (raised_then raised_number (λ label. raised_then (raised_expect _) (λ z. raised_map _ raised_unlabelled))) raised_unlabelled

-- ---- what stands behind one more opener, of any limits

module _ {Same Higher More : Type 0} {count : Counting} where
  pub behind_raises : (high room : ℕ) → DeeperRaises Same Higher More count (Behind Same Higher room high) (p.behind room) (p.behind high)
  unfolding p.behind
  behind_raises zero zero = record { expression = raised_refuse; access = raised_refuse; statement = raised_refuse }
  behind_raises zero (suc room) = record {
    expression = raised_refused (not_higher (suc room));
    access = raised_refused (not_higher (suc room));
    statement = raised_refused (not_higher (suc room));
  }
  behind_raises (suc high) zero = record {
    expression = raised_never (no_room (suc high)) (raised_expression high high);
    access = raised_never (no_room (suc high)) (raised_access high high);
    statement = raised_never (no_room (suc high)) (raised_statement_with high high (p.behind high) (p.behind high) (behind_raises high high));
  }
  behind_raises (suc high) (suc room) = record {
    expression = raised_granted (less room high) (raised_expression room high);
    access = raised_granted (less room high) (raised_access room high);
    statement = raised_granted (less room high) (raised_statement_with room high (p.behind room) (p.behind high) (behind_raises high room));
  }
