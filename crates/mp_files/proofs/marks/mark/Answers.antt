use Rattle.mp_files.proofs.MarkLemmas.{marked-set}
use Rattle.mp_files.proofs.marks.mark.Goals as goal

pub returns : goal.returns
returns c = marked-set c.args.marks.now c.args.at c.requires
