use Rattle.mp_tables.proofs.FirstPointLemmas.{first_point_is_found, own_point_is_filled, first_points_stand}
use Rattle.mp_tables.proofs.laws.first_points_are_found.Goals as goal

pub returns-clause-found : goal.returns-clause-found
returns-clause-found c = first_point_is_found

pub returns-clause-filled : goal.returns-clause-filled
returns-clause-filled c = own_point_is_filled

pub returns-clause-blocks : goal.returns-clause-blocks
returns-clause-blocks c = first_points_stand
