use Rattle.mp_script.proofs.BehindLaws.{one_behind}
use Rattle.mp_script.proofs.laws.behind_the_first_word.Goals as goal

pub returns : goal.returns
returns c = one_behind
