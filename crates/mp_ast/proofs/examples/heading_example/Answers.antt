use Rattle.mp_ast.proofs.HeadingExample.{heading_example}
use Rattle.mp_ast.proofs.examples.heading_example.Goals as goal

pub returns : goal.returns
returns c = heading_example
