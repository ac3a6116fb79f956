use Rattle.mp_ast.proofs.PlaceLemmas.{place_found, index_found, each_has_a_place}
use Rattle.mp_ast.proofs.ordinal_laws.places_of_tokens.Goals as goal

pub returns-clause-found : goal.returns-clause-found
returns-clause-found c = place_found

pub returns-clause-back : goal.returns-clause-back
returns-clause-back c = index_found

pub returns-clause-each : goal.returns-clause-each
returns-clause-each c = each_has_a_place
