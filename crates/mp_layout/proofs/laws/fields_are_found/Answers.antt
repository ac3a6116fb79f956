use Rattle.mp_layout.proofs.FieldLemmas.{field-found, field-absent}
use Rattle.mp_layout.proofs.laws.fields_are_found.Goals as goal

pub returns-clause-found : goal.returns-clause-found
returns-clause-found c = field-found

pub returns-clause-absent : goal.returns-clause-absent
returns-clause-absent c = field-absent
