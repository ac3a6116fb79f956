use Rattle.mp_ast.proofs.PlainTreeLemmas.{plain_tree-roll}
use Rattle.mp_ast.proofs.laws.plain_tree_forms.Goals as goal

pub returns : goal.returns
returns c = plain_tree-roll
