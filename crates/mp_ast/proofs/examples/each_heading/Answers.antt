use Rattle.mp_ast.proofs.ProductionExamples.{procedural_example, no_result_example}
use Rattle.mp_ast.proofs.examples.each_heading.Goals as goal

pub returns-clause-procedural : goal.returns-clause-procedural
returns-clause-procedural c = procedural_example

pub returns-clause-no_result : goal.returns-clause-no_result
returns-clause-no_result c = no_result_example
