use Rattle.mp_parse.proofs.FirstErrorLemmas as lemma
use Rattle.mp_parse.proofs.laws.one_first_error.Goals as goal

pub returns : goal.returns
returns c = lemma.first_errors_agree
