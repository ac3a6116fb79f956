use Rattle.mp_ast.proofs.SharedLemmas.{node-parts, own_of-node, inside_of-node}
use Rattle.mp_ast.proofs.laws.nodes_have_parts.Goals as goal

pub returns-clause-parts : goal.returns-clause-parts
returns-clause-parts c = node-parts

pub returns-clause-own : goal.returns-clause-own
returns-clause-own c = own_of-node

pub returns-clause-inside : goal.returns-clause-inside
returns-clause-inside c = inside_of-node
