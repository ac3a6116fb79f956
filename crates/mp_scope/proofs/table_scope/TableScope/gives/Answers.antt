use Rattle.mp_scope.proofs.GivesLemmas.{given_exactly}
use Rattle.mp_scope.proofs.table_scope.TableScope.gives.Goals as goal

pub returns : goal.returns
returns c = given_exactly c.args.self.now.tables.now c.args.pair.now c.is_given-given.result c.is_given-given.ensures
