use Rattle.mp_tables.proofs.OutwardLemmas.{search_is_outward, path_is_kept}
use Rattle.mp_tables.proofs.laws.the_search_goes_outward.Goals as goal

pub returns-clause-search : goal.returns-clause-search
returns-clause-search c = search_is_outward

pub returns-clause-path : goal.returns-clause-path
returns-clause-path c = path_is_kept
