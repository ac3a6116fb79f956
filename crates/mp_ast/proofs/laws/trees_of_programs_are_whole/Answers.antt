use Rattle.mp_ast.specs.PlainTrees.{plain_tree}
use Rattle.mp_ast.proofs.BlockLemmas.{each_token_has_a_block}
use Rattle.mp_ast.proofs.CountingBlocks.{derived_is_whole, derived_tokens}
use Rattle.mp_ast.proofs.laws.trees_of_programs_are_whole.Goals as goal

pub returns-clause-whole : goal.returns-clause-whole
returns-clause-whole c = derived_is_whole

pub returns-clause-tokens : goal.returns-clause-tokens
returns-clause-tokens c = derived_tokens

pub returns-clause-each : goal.returns-clause-each
returns-clause-each c = λ limits kinds tree h. each_token_has_a_block (plain_tree tree) (derived_is_whole limits kinds tree h)
