use Rattle.mp_ast.proofs.HeadedBlocks.{blocks_fit_their_paths}
use Rattle.mp_ast.proofs.WellFormedBlocks.{blocks_are_well_formed}
use Rattle.mp_ast.proofs.laws.blocks_of_programs_are_well_formed.Goals as goal

pub returns-clause-headings : goal.returns-clause-headings
returns-clause-headings c = blocks_fit_their_paths

pub returns-clause-own_trees : goal.returns-clause-own_trees
returns-clause-own_trees c = blocks_are_well_formed
