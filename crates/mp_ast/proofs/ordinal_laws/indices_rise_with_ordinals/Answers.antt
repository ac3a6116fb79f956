use Rattle.mp_ast.proofs.IndexLemmas.{indices_rise}
use Rattle.mp_ast.proofs.ordinal_laws.indices_rise_with_ordinals.Goals as goal

pub returns : goal.returns
returns c = indices_rise
