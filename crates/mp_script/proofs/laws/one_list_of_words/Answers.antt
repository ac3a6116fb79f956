use Rattle.mp_script.proofs.WordLaws.{its_words}
use Rattle.mp_script.proofs.laws.one_list_of_words.Goals as goal

pub returns : goal.returns
returns c = its_words
