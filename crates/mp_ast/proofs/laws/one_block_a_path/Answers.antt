use Rattle.mp_ast.proofs.PathLemmas.{paths_differ, each_is_at_its_path}
use Rattle.mp_ast.proofs.laws.one_block_a_path.Goals as goal

pub returns-clause-differ : goal.returns-clause-differ
returns-clause-differ c = paths_differ

pub returns-clause-found : goal.returns-clause-found
returns-clause-found c = each_is_at_its_path
