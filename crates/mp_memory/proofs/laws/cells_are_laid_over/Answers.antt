use Rattle.mp_memory.proofs.LaidLaw.{cells_are_laid_over}
use Rattle.mp_memory.proofs.laws.cells_are_laid_over.Goals as goal

pub returns : goal.returns
returns c = cells_are_laid_over
