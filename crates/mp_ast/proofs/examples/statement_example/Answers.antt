use Rattle.mp_ast.proofs.StatementExamples.{else_example, case_example}
use Rattle.mp_ast.proofs.ExampleRefusals.{no_else_follows}
use Rattle.mp_ast.proofs.examples.statement_example.Goals as goal

pub returns-clause-alternative : goal.returns-clause-alternative
returns-clause-alternative c = else_example

pub returns-clause-labelled : goal.returns-clause-labelled
returns-clause-labelled c = case_example

pub returns-clause-none : goal.returns-clause-none
returns-clause-none c = no_else_follows
