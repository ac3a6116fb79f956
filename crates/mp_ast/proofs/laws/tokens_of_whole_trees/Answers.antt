use Rattle.mp_ast.proofs.BlockLemmas.{tokens_add_up, each_token_has_a_block}
use Rattle.mp_ast.proofs.laws.tokens_of_whole_trees.Goals as goal

pub returns-clause-number : goal.returns-clause-number
returns-clause-number c = tokens_add_up

pub returns-clause-each : goal.returns-clause-each
returns-clause-each c = each_token_has_a_block
