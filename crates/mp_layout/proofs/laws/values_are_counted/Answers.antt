use Rattle.mp_layout.proofs.ValueLemmas.{counts_values}
use Rattle.mp_layout.proofs.laws.values_are_counted.Goals as goal

pub returns : goal.returns
returns c = counts_values
