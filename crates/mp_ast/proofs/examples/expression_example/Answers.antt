use Rattle.mp_ast.proofs.ExpressionExample.{expression_example}
use Rattle.mp_ast.proofs.examples.expression_example.Goals as goal

pub returns : goal.returns
returns c = expression_example
