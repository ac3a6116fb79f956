use Rattle.mp_tables.proofs.SameAnswers.{type_is}
use Rattle.mp_tables.proofs.laws.types_are_told_apart.Goals as goal

pub returns : goal.returns
returns c a b = type_is a b
