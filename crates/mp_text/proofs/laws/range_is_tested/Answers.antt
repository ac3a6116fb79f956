use Rattle.mp_text.proofs.EditLaws.{range_tested}
use Rattle.mp_text.proofs.laws.range_is_tested.Goals as goal

pub returns : goal.returns
returns c = range_tested
