use Rattle.mp_memory.proofs.LaidLemmas.{set_one}
use Rattle.mp_memory.proofs.region.set.Goals as goal

pub returns : goal.returns
returns c = set_one c.args.cells.now.items c.args.offset c.args.cell c.requires
