use Rattle.mp_cursor.proofs.RuleLaws.{exactly}
use Rattle.std.proofs.Common.{refl}
use Rattle.mp_parse_expr.specs.ExpressionFollows.{after_access}
use Rattle.mp_parse_expr.proofs.ExpressionLaws.{law_expression, law_access, law_actuals}
use Rattle.mp_parse_expr.proofs.laws.expressions_are_read_exactly.Goals as goal

pub returns-clause-expression : goal.returns-clause-expression
returns-clause-expression c = λ room. exactly (law_expression room)

pub returns-clause-access : goal.returns-clause-access
returns-clause-access c = λ room. exactly (law_access room after_access refl)

pub returns-clause-actuals : goal.returns-clause-actuals
returns-clause-actuals c = λ room. exactly (law_actuals room)
