use Rattle.mp_ast.proofs.ProductionExamples.{string_example, nil_example, sign_example, not_example, empty_set_example, function_example}
use Rattle.mp_ast.proofs.examples.each_expression.Goals as goal

pub returns-clause-string : goal.returns-clause-string
returns-clause-string c = string_example

pub returns-clause-nil : goal.returns-clause-nil
returns-clause-nil c = nil_example

pub returns-clause-sign : goal.returns-clause-sign
returns-clause-sign c = sign_example

pub returns-clause-negation : goal.returns-clause-negation
returns-clause-negation c = not_example

pub returns-clause-empty_set : goal.returns-clause-empty_set
returns-clause-empty_set c = empty_set_example

pub returns-clause-function_call : goal.returns-clause-function_call
returns-clause-function_call c = function_example
