use Rattle.mp_ast.proofs.PlainHeadingLemmas.{plain_formal_section-Values, plain_formal_section-Variables, plain_formal_section-Procedure, plain_formal_section-Function}
use Rattle.mp_ast.proofs.laws.plain_heading_forms.Goals as goal

pub returns-clause-values : goal.returns-clause-values
returns-clause-values c = plain_formal_section-Values

pub returns-clause-variables : goal.returns-clause-variables
returns-clause-variables c = plain_formal_section-Variables

pub returns-clause-procedure : goal.returns-clause-procedure
returns-clause-procedure c = plain_formal_section-Procedure

pub returns-clause-function : goal.returns-clause-function
returns-clause-function c = plain_formal_section-Function
