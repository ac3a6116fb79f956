use Rattle.mp_ast.proofs.TypeExample.{type_example}
use Rattle.mp_ast.proofs.ExampleRefusals.{no_room_for_packed}
use Rattle.mp_ast.proofs.examples.type_example.Goals as goal

pub returns-clause-tree : goal.returns-clause-tree
returns-clause-tree c = type_example

pub returns-clause-none : goal.returns-clause-none
returns-clause-none c = no_room_for_packed
