use Rattle.mp_ast.proofs.ProgramExample.{program_example}
use Rattle.mp_ast.proofs.ExampleRefusals.{none_in_the_deepest}
use Rattle.mp_ast.proofs.examples.program_example.Goals as goal

pub returns-clause-tree : goal.returns-clause-tree
returns-clause-tree c = program_example

pub returns-clause-none : goal.returns-clause-none
returns-clause-none c = none_in_the_deepest
