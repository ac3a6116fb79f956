use Rattle.std.proofs.Common.{refl}
use Rattle.mp_base.specs.Position.{position_from}
use Rattle.mp_base.specs.Text.{bytes_of}
use Rattle.mp_ast.specs.Blocks.{own_tokens}
use Rattle.mp_ast.proofs.laws.blocks_of_an_example.Goals as goal

pub returns-clause-paths : goal.returns-clause-paths
returns-clause-paths c = refl

pub returns-clause-own_trees : goal.returns-clause-own_trees
returns-clause-own_trees c = refl

pub returns-clause-own_tokens : goal.returns-clause-own_tokens
unfolding own_tokens
returns-clause-own_tokens c = refl

pub returns-clause-tokens : goal.returns-clause-tokens
returns-clause-tokens c = refl

pub returns-clause-token_of_the_program : goal.returns-clause-token_of_the_program
returns-clause-token_of_the_program c = refl

pub returns-clause-token_of_a_block : goal.returns-clause-token_of_a_block
returns-clause-token_of_a_block c = refl

pub returns-clause-token_of_the_second : goal.returns-clause-token_of_the_second
returns-clause-token_of_the_second c = refl

pub returns-clause-no_such_token : goal.returns-clause-no_such_token
returns-clause-no_such_token c = refl

pub returns-clause-no_such_block : goal.returns-clause-no_such_block
returns-clause-no_such_block c = refl

pub returns-clause-position : goal.returns-clause-position
unfolding position_from
returns-clause-position c = refl

pub returns-clause-no_position : goal.returns-clause-no_position
returns-clause-no_position c = refl

pub returns-clause-end : goal.returns-clause-end
unfolding position_from bytes_of
returns-clause-end c = refl
