use Rattle.mp_text.proofs.EditLaws.{sized}
use Rattle.mp_text.proofs.laws.sizes_of_edits.Goals as goal

pub returns : goal.returns
returns c = sized
