use Rattle.mp_ast.proofs.PlainExpressionLemmas.{plain_expr-Number, plain_expr-Text, plain_expr-Nil, plain_expr-Access, plain_expr-Call, plain_expr-Inside}
use Rattle.mp_ast.proofs.PlainExpressionLemmas.{plain_expr-Not, plain_expr-Set, plain_expr-Product, plain_expr-Sum, plain_expr-Relation}
use Rattle.mp_ast.proofs.laws.plain_expression_forms.Goals as goal

pub returns-clause-number : goal.returns-clause-number
returns-clause-number c = plain_expr-Number

pub returns-clause-text : goal.returns-clause-text
returns-clause-text c = plain_expr-Text

pub returns-clause-nil : goal.returns-clause-nil
returns-clause-nil c = plain_expr-Nil

pub returns-clause-access : goal.returns-clause-access
returns-clause-access c = plain_expr-Access

pub returns-clause-call : goal.returns-clause-call
returns-clause-call c = plain_expr-Call

pub returns-clause-inside : goal.returns-clause-inside
returns-clause-inside c = plain_expr-Inside

pub returns-clause-negation : goal.returns-clause-negation
returns-clause-negation c = plain_expr-Not

pub returns-clause-set_constructor : goal.returns-clause-set_constructor
returns-clause-set_constructor c = plain_expr-Set

pub returns-clause-product : goal.returns-clause-product
returns-clause-product c = plain_expr-Product

pub returns-clause-sum : goal.returns-clause-sum
returns-clause-sum c = plain_expr-Sum

pub returns-clause-relation : goal.returns-clause-relation
returns-clause-relation c = plain_expr-Relation
