use Rattle.mp_script.proofs.KeywordLemmas.{found_by_spelling}
use Rattle.mp_script.proofs.laws.keywords_are_found.Goals as goal

pub returns : goal.returns
returns c = found_by_spelling
