use Rattle.mp_lex.proofs.RoundLemmas.{the_kept, the_same}
use Rattle.mp_lex.proofs.laws.places_round_a_change.Goals as goal

pub returns-clause-kept : goal.returns-clause-kept
returns-clause-kept c = the_kept

pub returns-clause-same : goal.returns-clause-same
returns-clause-same c = the_same
