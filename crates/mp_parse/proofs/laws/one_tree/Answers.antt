use Rattle.mp_parse.proofs.ProgramLemmas as lemma
use Rattle.mp_parse.proofs.laws.one_tree.Goals as goal

pub returns : goal.returns
returns c = lemma.one_tree
