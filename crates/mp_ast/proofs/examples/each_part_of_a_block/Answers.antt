use Rattle.mp_ast.proofs.ProductionExamples.{parts_example}
use Rattle.mp_ast.proofs.examples.each_part_of_a_block.Goals as goal

pub returns : goal.returns
returns c = parts_example
