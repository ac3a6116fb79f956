-- Each part of a program begins at the first token that its tree tells. By cases over the productions: the first of what
-- stands one after another in a production is a token, whose ordinal the tree keeps, or a part that begins there.
use Rattle.std.proofs.Common.{◌≡◌, ℕ, zero, suc, ◌⊎◌, inl, inr, List, [], ◌∷◌, Option, Some, None, refl, sym, ap, ◌∙◌}
use Rattle.mp_ast.specs.declared.tokens.TokenKind.{TokenKind}
use Rattle.mp_ast.specs.declared.words.WordSymbol.{WordSymbol}
use Rattle.mp_ast.specs.declared.leaves.Identifier.{Identifier}
use Rattle.mp_ast.specs.declared.leaves.Number.{Number}
use Rattle.mp_ast.specs.declared.leaves.Sign.{Sign}
use Rattle.mp_ast.specs.declared.leaves.Constant.{Constant}
use Rattle.mp_ast.specs.declared.leaves.Constant.TheVariants as c
use Rattle.mp_ast.specs.declared.expressions.Access.{Access}
use Rattle.mp_ast.specs.declared.expressions.Operation.{Operation}
use Rattle.mp_ast.specs.declared.expressions.Expr.{Expr}
use Rattle.mp_ast.specs.declared.expressions.Expr.TheVariants as e
use Rattle.mp_ast.specs.declared.types.Section.{Section}
use Rattle.mp_ast.specs.declared.types.VariantPart.{VariantPart}
use Rattle.mp_ast.specs.declared.types.Denoter.{Denoter}
use Rattle.mp_ast.specs.declared.types.Denoter.TheVariants as d
use Rattle.mp_ast.specs.declared.statements.Statement.{Statement}
use Rattle.mp_ast.specs.declared.statements.Statement.TheVariants as t
use Rattle.mp_ast.specs.Rules.{Input, ◌<$>◌, optional, opener}
use Rattle.mp_ast.specs.LeafGrammar.{identifier, number, sign, constant}
use Rattle.mp_ast.specs.ExpressionGrammar as expressions
use Rattle.mp_ast.specs.ExpressionGrammar.{product, sum, relation, access_with, factor_with, term, simple_expression, expression_with, expression, access}
use Rattle.mp_ast.specs.TypeGrammar as types
use Rattle.mp_ast.specs.TypeGrammar.{simple_type, structure_word, first_of, structure, denoter_with, denoter}
use Rattle.mp_ast.specs.StatementGrammar as statements
use Rattle.mp_ast.specs.StatementGrammar.{unlabelled, statement_with, statement}
use Rattle.mp_ast.specs.PlainExpressions.{PlainExpr, plain_expr, plain_access}
use Rattle.mp_ast.specs.PlainTypes.{PlainDenoter, plain_denoter}
use Rattle.mp_ast.specs.PlainStatements.{PlainStatement, plain_statement}
use Rattle.mp_ast.specs.FirstTokens.{first_of_constant, first_of_access, first_of_expression, first_of_denoter, first_of_statement}
use Rattle.mp_ast.proofs.PlainExpressionLemmas.{plain_expr-Number, plain_expr-Text, plain_expr-Nil, plain_expr-Access, plain_expr-Call, plain_expr-Inside}
use Rattle.mp_ast.proofs.PlainExpressionLemmas.{plain_expr-Not, plain_expr-Set, plain_expr-Product, plain_expr-Sum, plain_expr-Relation}
use Rattle.mp_ast.proofs.PlainTypeLemmas.{plain_denoter-Named, plain_denoter-Enumeration, plain_denoter-Subrange, plain_denoter-Pointer, plain_denoter-Array}
use Rattle.mp_ast.proofs.PlainTypeLemmas.{plain_denoter-Record, plain_denoter-Set, plain_denoter-File, plain_denoter-Fields, plain_denoter-FieldsWithVariants}
use Rattle.mp_ast.proofs.PlainStatementLemmas.{plain_statement-Labelled, plain_statement-Empty, plain_statement-Assign, plain_statement-Call}
use Rattle.mp_ast.proofs.PlainStatementLemmas.{plain_statement-Goto, plain_statement-Compound, plain_statement-If, plain_statement-IfElse, plain_statement-Case}
use Rattle.mp_ast.proofs.PlainStatementLemmas.{plain_statement-While, plain_statement-Repeat, plain_statement-For, plain_statement-With}

-- ---- a tree by what it is as plain data

pub expr_begins :
    (x y : Expr) (p : PlainExpr) (at : ℕ) → x ≡ y → plain_expr y ≡ p → first_of_expression p ≡ at → first_of_expression (plain_expr x) ≡ at
expr_begins x y p at e f g = ap (λ z. first_of_expression (plain_expr z)) e ∙ ap first_of_expression f ∙ g

pub denoter_begins :
    (x y : Denoter) (p : PlainDenoter) (at : ℕ) → x ≡ y → plain_denoter y ≡ p → first_of_denoter p ≡ at → first_of_denoter (plain_denoter x) ≡ at
denoter_begins x y p at e f g = ap (λ z. first_of_denoter (plain_denoter z)) e ∙ ap first_of_denoter f ∙ g

pub statement_begins :
    (x y : Statement) (p : PlainStatement) (at : ℕ) → x ≡ y → plain_statement y ≡ p → first_of_statement p ≡ at → first_of_statement (plain_statement x) ≡ at
statement_begins x y p at e f g = ap (λ z. first_of_statement (plain_statement z)) e ∙ ap first_of_statement f ∙ g

-- an `if`, with or without `else`
pub if_begins :
    (x : Statement) (at : ℕ) (condition : Expr) (first : Statement) (second : Option Statement) →
    x ≡ t.If at condition first second → first_of_statement (plain_statement x) ≡ at
if_begins x at condition first None e = statement_begins x _ _ at e (plain_statement-If at condition first) refl
if_begins x at condition first (Some second) e = statement_begins x _ _ at e (plain_statement-IfElse at condition first second) refl

-- a field list, with or without a variant part, has 0
pub fields_begin :
    (x : Denoter) (fixed : List (Section Denoter)) (part : Option (VariantPart Denoter)) →
    x ≡ d.Fields fixed part → first_of_denoter (plain_denoter x) ≡ 0
fields_begin x fixed None e = denoter_begins x _ _ 0 e (plain_denoter-Fields fixed) refl
fields_begin x fixed (Some part) e = denoter_begins x _ _ 0 e (plain_denoter-FieldsWithVariants fixed part) refl

-- ---- what has operators, and what has a sign

abbrev pub signed : Option Sign → ℕ → ℕ
signed None at = at
signed (Some s) at = s.at

signed_number : (s : Option Sign) (n : Number) → first_of_constant (c.Number s n) ≡ signed s n.at
signed_number None n = refl
signed_number (Some s) n = refl

signed_name : (s : Option Sign) (name : Identifier) → first_of_constant (c.Name s name) ≡ signed s name.at
signed_name None name = refl
signed_name (Some s) name = refl

pub product_begins : (first : Expr) (more : List (Operation Expr)) → first_of_expression (plain_expr (product first more)) ≡ first_of_expression (plain_expr first)
product_begins first [] = refl
product_begins first (x ∷ more) = ap first_of_expression (plain_expr-Product first (x ∷ more))

pub sum_begins :
    (s : Option Sign) (first : Expr) (more : List (Operation Expr)) →
    first_of_expression (plain_expr (sum s first more)) ≡ signed s (first_of_expression (plain_expr first))
sum_begins None first [] = refl
sum_begins (Some s) first more = ap first_of_expression (plain_expr-Sum (Some s) first more)
sum_begins None first (x ∷ more) = ap first_of_expression (plain_expr-Sum None first (x ∷ more))

pub sum_tree_begins :
    (x : Expr) (s : Option Sign) (first : Expr) (more : List (Operation Expr)) → x ≡ e.Sum s first more →
    first_of_expression (plain_expr x) ≡ signed s (first_of_expression (plain_expr first))
sum_tree_begins x None first more q = expr_begins x _ _ _ q (plain_expr-Sum None first more) refl
sum_tree_begins x (Some s) first more q = expr_begins x _ _ _ q (plain_expr-Sum (Some s) first more) refl

pub relation_begins : (left : Expr) (right : Option (Operation Expr)) → first_of_expression (plain_expr (relation left right)) ≡ first_of_expression (plain_expr left)
relation_begins left None = refl
relation_begins left (Some o) = ap first_of_expression (plain_expr-Relation left o)

-- ---- tokens and leaves

opener_at : (room : ℕ) (k : TokenKind) (i : Input) (at : ℕ) (j : Input) → opener room k i at j → at ≡ i.at
opener_at zero k i at j h = elim h [ ]
opener_at (suc room) k i at j h = sym h.1

sign_at : (i : Input) (s : Sign) (j : Input) → sign i s j → s.at ≡ i.at
sign_at i s j (inl h) = sym (ap (λ z. z.at) h.3.0) ∙ sym h.2.1
sign_at i s j (inr h) = sym (ap (λ z. z.at) h.3.0) ∙ sym h.2.1

signed_at : (i : Input) (s : Option Sign) (m : Input) (at : ℕ) → optional sign i s m → at ≡ m.at → signed s at ≡ i.at
signed_at i s m at (inl h) e = sym (ap (λ z. signed z at) h.3.0) ∙ sign_at i h.0 h.1 h.2
signed_at i s m at (inr h) e = sym (ap (λ z. signed z at) h.0) ∙ e ∙ sym (ap (λ z. z.at) h.1)

signed_constant_at :
    (i : Input) (s : Option Sign) (m : Input) (x : Constant) (j : Input) → optional sign i s m →
    (c.Number s <$> number) m x j ⊎ (c.Name s <$> identifier) m x j → first_of_constant x ≡ i.at
signed_constant_at i s m x j o (inl h) = sym (ap first_of_constant h.3.0) ∙ signed_number s h.0 ∙ signed_at i s m h.0.at o (sym h.2.1)
signed_constant_at i s m x j o (inr h) = sym (ap first_of_constant h.3.0) ∙ signed_name s h.0 ∙ signed_at i s m h.0.at o (sym h.2.1)

pub constant_at : (i : Input) (x : Constant) (j : Input) → constant i x j → first_of_constant x ≡ i.at
constant_at i x j (inl h) = signed_constant_at i h.0 h.1 x j h.2 h.3
constant_at i x j (inr h) = sym (ap first_of_constant h.3.0) ∙ sym h.2.1

-- ---- expressions

access_with_at : (room : ℕ) (b : expressions.Deeper) (i : Input) (x : Access Expr) (j : Input) → access_with room b i x j → first_of_access (plain_access x) ≡ i.at
access_with_at room b i x j h = sym (ap (λ a. a.name.at) h.3.3.0) ∙ sym h.2.1

factor_at : (room : ℕ) (b : expressions.Deeper) (i : Input) (x : Expr) (j : Input) → factor_with room b i x j → first_of_expression (plain_expr x) ≡ i.at
factor_at room b i x j (inl h) = expr_begins x _ _ i.at (sym h.3.0) (plain_expr-Number h.0) (sym h.2.1)
factor_at room b i x j (inr (inl h)) = expr_begins x _ _ i.at (sym h.3.0) (plain_expr-Text h.0) (sym h.2.1)
factor_at room b i x j (inr (inr (inl h))) = expr_begins x _ _ i.at (sym h.3.0) (plain_expr-Nil h.0) (sym h.2.1)
factor_at room b i x j (inr (inr (inr (inl h)))) = expr_begins x _ _ i.at (sym h.3.0) (plain_expr-Access h.0) (access_with_at room b i h.0 h.1 h.2)
factor_at room b i x j (inr (inr (inr (inr (inl h))))) = expr_begins x _ _ i.at (sym h.3.3.0) (plain_expr-Call h.0 h.3.0) (sym h.2.1)
factor_at room b i x j (inr (inr (inr (inr (inr (inl h)))))) = expr_begins x _ _ i.at (sym h.3.3.3.0) (plain_expr-Inside h.0 h.3.0) (opener_at room _ i h.0 h.1 h.2)
factor_at room b i x j (inr (inr (inr (inr (inr (inr (inl h))))))) = expr_begins x _ _ i.at (sym h.3.3.0) (plain_expr-Not h.0 h.3.0) (opener_at room _ i h.0 h.1 h.2)
factor_at room b i x j (inr (inr (inr (inr (inr (inr (inr h))))))) = expr_begins x _ _ i.at (sym h.3.3.3.0) (plain_expr-Set h.0 h.3.0) (opener_at room _ i h.0 h.1 h.2)

term_at : (room : ℕ) (b : expressions.Deeper) (i : Input) (x : Expr) (j : Input) → term room b i x j → first_of_expression (plain_expr x) ≡ i.at
term_at room b i x j h = sym (ap (λ z. first_of_expression (plain_expr z)) h.3.3.0) ∙ product_begins h.0 h.3.0 ∙ factor_at room b i h.0 h.1 h.2

simple_at : (room : ℕ) (b : expressions.Deeper) (i : Input) (x : Expr) (j : Input) → simple_expression room b i x j → first_of_expression (plain_expr x) ≡ i.at
simple_at room b i x j h =
    sym (ap (λ z. first_of_expression (plain_expr z)) h.3.3.3.0) ∙ sum_begins h.0 h.3.0 h.3.3.0 ∙ signed_at i h.0 h.1 _ h.2 (term_at room b h.1 h.3.0 h.3.1 h.3.2)

expression_with_at : (room : ℕ) (b : expressions.Deeper) (i : Input) (x : Expr) (j : Input) → expression_with room b i x j → first_of_expression (plain_expr x) ≡ i.at
expression_with_at room b i x j h =
    sym (ap (λ z. first_of_expression (plain_expr z)) h.3.3.0) ∙ relation_begins h.0 h.3.0 ∙ simple_at room b i h.0 h.1 h.2

pub access_at : (room : ℕ) (i : Input) (x : Access Expr) (j : Input) → access room i x j → first_of_access (plain_access x) ≡ i.at
access_at room i x j h = access_with_at room (expressions.behind room) i x j h

pub expression_at : (room : ℕ) (i : Input) (x : Expr) (j : Input) → expression room i x j → first_of_expression (plain_expr x) ≡ i.at
expression_at room i x j h = expression_with_at room (expressions.behind room) i x j h

-- ---- types

simple_type_at : (i : Input) (x : Denoter) (j : Input) → simple_type i x j → first_of_denoter (plain_denoter x) ≡ i.at
simple_type_at i x j (inl h) = denoter_begins x _ _ i.at (sym h.3.0) (plain_denoter-Named h.0) (sym h.2.1)
simple_type_at i x j (inr (inl h)) = denoter_begins x _ _ i.at (sym h.3.3.3.0) (plain_denoter-Enumeration h.0 h.3.0) (sym h.2.1)
simple_type_at i x j (inr (inr h)) = denoter_begins x _ _ i.at (sym h.3.3.3.0) (plain_denoter-Subrange h.0 h.3.3.0) (constant_at i h.0 h.1 h.2)

module _ (room : ℕ) (b : types.Deeper) where
  -- A structured type stands at `packed`, or at its own word.
  structure_at :
      (packed : Option ℕ) (i : Input) (start : ℕ) →
      ((w : WordSymbol) (at : ℕ) (m : Input) → structure_word room b packed w i at m → first_of room b packed at ≡ start) →
      (x : Denoter) (j : Input) → structure room b packed i x j → first_of_denoter (plain_denoter x) ≡ start
  structure_at packed i start place x j (inl h) = denoter_begins x _ _ start (sym h.3.3.3.3.3.3.3.0) (plain_denoter-Array _ _ _ _) (place _ h.0 h.1 h.2)
  structure_at packed i start place x j (inr (inl h)) = denoter_begins x _ _ start (sym h.3.3.3.0) (plain_denoter-Record _ _ h.3.0) (place _ h.0 h.1 h.2)
  structure_at packed i start place x j (inr (inr (inl h))) = denoter_begins x _ _ start (sym h.3.3.3.0) (plain_denoter-Set _ _ h.3.3.0) (place _ h.0 h.1 h.2)
  structure_at packed i start place x j (inr (inr (inr h))) = denoter_begins x _ _ start (sym h.3.3.3.0) (plain_denoter-File _ _ h.3.3.0) (place _ h.0 h.1 h.2)

  denoter_with_at : (i : Input) (x : Denoter) (j : Input) → denoter_with room b i x j → first_of_denoter (plain_denoter x) ≡ i.at
  denoter_with_at i x j (inl h) = simple_type_at i x j h
  denoter_with_at i x j (inr (inl h)) = denoter_begins x _ _ i.at (sym h.3.3.0) (plain_denoter-Pointer h.0 h.3.0) (sym h.2.1)
  denoter_with_at i x j (inr (inr (inl h))) = structure_at None i i.at (λ w at m o. opener_at room _ i at m o) x j h
  denoter_with_at i x j (inr (inr (inr h))) = structure_at (Some h.0) h.1 i.at (λ w at m o. opener_at room _ i h.0 h.1 h.2) x j h.3

pub denoter_at : (room : ℕ) (i : Input) (x : Denoter) (j : Input) → denoter room i x j → first_of_denoter (plain_denoter x) ≡ i.at
denoter_at room i x j h = denoter_with_at room (types.behind room) i x j h

-- ---- statements

module _ (room : ℕ) (b : statements.Deeper) where
  unlabelled_at : (i : Input) (x : Statement) (j : Input) → unlabelled room b i x j → first_of_statement (plain_statement x) ≡ i.at
  unlabelled_at i x j (inl h) = statement_begins x _ _ i.at (sym h.3.0) (plain_statement-Empty h.0) (sym h.2.0)
  unlabelled_at i x j (inr (inl h)) =
      statement_begins x _ _ i.at (sym h.3.3.3.0) (plain_statement-Assign h.0 h.3.0 h.3.3.0) (access_at room i h.0 h.1 h.2)
  unlabelled_at i x j (inr (inr (inl h))) = statement_begins x _ _ i.at (sym h.3.3.0) (plain_statement-Call h.0 h.3.0) (sym h.2.1)
  unlabelled_at i x j (inr (inr (inr (inl h)))) = statement_begins x _ _ i.at (sym h.3.3.0) (plain_statement-Goto h.0 h.3.0) (sym h.2.1)
  unlabelled_at i x j (inr (inr (inr (inr (inl h))))) =
      statement_begins x _ _ i.at (sym h.3.3.3.0) (plain_statement-Compound h.0 h.3.0) (opener_at room _ i h.0 h.1 h.2)
  unlabelled_at i x j (inr (inr (inr (inr (inr (inl h)))))) =
      if_begins x h.0 h.3.0 h.3.3.3.0 h.3.3.3.3.0 (sym h.3.3.3.3.3.0) ∙ opener_at room _ i h.0 h.1 h.2
  unlabelled_at i x j (inr (inr (inr (inr (inr (inr (inl h))))))) =
      statement_begins x _ _ i.at (sym h.3.3.3.3.3.3.0) (plain_statement-Case h.0 h.3.0 h.3.3.3.0) (opener_at room _ i h.0 h.1 h.2)
  unlabelled_at i x j (inr (inr (inr (inr (inr (inr (inr (inl h)))))))) =
      statement_begins x _ _ i.at (sym h.3.3.3.3.0) (plain_statement-While h.0 h.3.0 h.3.3.3.0) (opener_at room _ i h.0 h.1 h.2)
  unlabelled_at i x j (inr (inr (inr (inr (inr (inr (inr (inr (inl h))))))))) =
      statement_begins x _ _ i.at (sym h.3.3.3.3.0) (plain_statement-Repeat h.0 h.3.0 h.3.3.3.0) (opener_at room _ i h.0 h.1 h.2)
  unlabelled_at i x j (inr (inr (inr (inr (inr (inr (inr (inr (inr (inl h)))))))))) =
      statement_begins x _ _ i.at (sym h.3.3.3.3.0) (plain_statement-For h.0 h.3.0 h.3.3.3.0) (opener_at room _ i h.0 h.1 h.2)
  unlabelled_at i x j (inr (inr (inr (inr (inr (inr (inr (inr (inr (inr h)))))))))) =
      statement_begins x _ _ i.at (sym h.3.3.3.3.0) (plain_statement-With h.0 h.3.0 h.3.3.3.0) (opener_at room _ i h.0 h.1 h.2)

  statement_with_at : (i : Input) (x : Statement) (j : Input) → statement_with room b i x j → first_of_statement (plain_statement x) ≡ i.at
  statement_with_at i x j (inl h) = unlabelled_at i x j h
  statement_with_at i x j (inr h) = statement_begins x _ _ i.at (sym h.3.3.3.0) (plain_statement-Labelled h.0 h.3.3.0) (sym h.2.1)

pub statement_at : (room : ℕ) (i : Input) (x : Statement) (j : Input) → statement room i x j → first_of_statement (plain_statement x) ≡ i.at
statement_at room i x j h = statement_with_at room (statements.behind room) i x j h
