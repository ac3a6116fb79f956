use Rattle.std.proofs.Common.{refl, sym, ap, ◌∙◌}
use Rattle.mp_ast.proofs.PlainExpressionLemmas.{plain_expr-Number, plain_expr-Text, plain_expr-Nil, plain_expr-Access, plain_expr-Call, plain_expr-Inside}
use Rattle.mp_ast.proofs.PlainExpressionLemmas.{plain_expr-Not, plain_expr-Set, plain_expr-Product, plain_expr-Relation}
use Rattle.mp_ast.specs.PlainExpressions.{plain_expr}
use Rattle.mp_ast.specs.FirstTokens.{first_of_expression}
use Rattle.mp_ast.proofs.FirstTokenLemmas.{signed, expr_begins, sum_tree_begins}
use Rattle.mp_ast.proofs.expressions.Expr.+first_token.Goals as goal

pub returns-in-Number : goal.returns-in-Number
returns-in-Number t c = sym (expr_begins _ _ _ _ c.in-Number.is (plain_expr-Number c.in-Number.number) refl)

pub returns-in-Text : goal.returns-in-Text
returns-in-Text t c = sym (expr_begins _ _ _ _ c.in-Text.is (plain_expr-Text c.in-Text.string) refl)

pub returns-in-Nil : goal.returns-in-Nil
returns-in-Nil t c = sym (expr_begins _ _ _ _ c.in-Nil.is (plain_expr-Nil c.in-Nil.at) refl)

pub returns-in-Access : goal.returns-in-Access
returns-in-Access t c = c.first_token.ensures ∙ sym (expr_begins _ _ _ _ c.in-Access.is (plain_expr-Access c.in-Access.access) refl)

pub returns-in-Call : goal.returns-in-Call
returns-in-Call t c = sym (expr_begins _ _ _ _ c.in-Call.is (plain_expr-Call c.in-Call.name c.in-Call.field-1) refl)

pub returns-in-Inside : goal.returns-in-Inside
returns-in-Inside t c = sym (expr_begins _ _ _ _ c.in-Inside.is (plain_expr-Inside c.in-Inside.at c.in-Inside.field-1) refl)

pub returns-in-Not : goal.returns-in-Not
returns-in-Not t c = sym (expr_begins _ _ _ _ c.in-Not.is (plain_expr-Not c.in-Not.at c.in-Not.field-1) refl)

pub returns-in-Set : goal.returns-in-Set
returns-in-Set t c = sym (expr_begins _ _ _ _ c.in-Set.is (plain_expr-Set c.in-Set.at c.in-Set.field-1) refl)

pub returns-in-Product : goal.returns-in-Product
returns-in-Product t c =
    c.first_token-in-Product.ensures ∙ ap (λ x. first_of_expression (plain_expr x)) c.get.ensures ∙
    sym (expr_begins _ _ _ _ c.in-Product.is (plain_expr-Product c.in-Product.first c.in-Product.field-1) refl)

pub returns-in-Some : goal.returns-in-Some
returns-in-Some t c =
    sym (sum_tree_begins _ c.in-Sum.sign c.in-Sum.first c.in-Sum.field-2 c.in-Sum.is ∙
    ap (λ s. signed s (first_of_expression (plain_expr c.in-Sum.first))) c.in-Some.is)

pub returns-in-None : goal.returns-in-None
returns-in-None t c =
    c.first_token-in-None.ensures ∙ ap (λ x. first_of_expression (plain_expr x)) c.get-in-None.ensures ∙
    sym (sum_tree_begins _ c.in-Sum.sign c.in-Sum.first c.in-Sum.field-2 c.in-Sum.is ∙
    ap (λ s. signed s (first_of_expression (plain_expr c.in-Sum.first))) c.in-None.is)

pub returns-in-Relation : goal.returns-in-Relation
returns-in-Relation t c =
    c.first_token-in-Relation.ensures ∙ ap (λ x. first_of_expression (plain_expr x)) c.get-in-Relation.ensures ∙
    sym (expr_begins _ _ _ _ c.in-Relation.is (plain_expr-Relation c.in-Relation.left c.in-Relation.field-1) refl)
