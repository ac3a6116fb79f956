use Rattle.mp_parse.proofs.LocalBlocks as lemma
use Rattle.mp_parse.proofs.laws.blocks_do_not_look_around.Goals as goal

pub returns : goal.returns
returns c = lemma.blocks_are_local
