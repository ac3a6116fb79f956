use Rattle.mp_text.proofs.EditLaws.{makes_one}
use Rattle.mp_text.proofs.laws.edits_change_their_place.Goals as goal

pub returns : goal.returns
returns c = makes_one
