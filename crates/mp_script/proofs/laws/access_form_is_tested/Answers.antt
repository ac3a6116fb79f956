use Rattle.mp_script.proofs.AccessLaws.{form_tested}
use Rattle.mp_script.proofs.laws.access_form_is_tested.Goals as goal

pub returns : goal.returns
returns c = form_tested
