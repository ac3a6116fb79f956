use Rattle.mp_parse.proofs.FirstErrorLemmas as lemma
use Rattle.mp_parse.proofs.laws.first_errors_are_found.Goals as goal

pub returns : goal.returns
returns c = lemma.first_errors_are_found
