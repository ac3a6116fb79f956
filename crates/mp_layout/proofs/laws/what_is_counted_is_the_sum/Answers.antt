use Rattle.mp_layout.proofs.SumLemmas.{sum_of-within, sum_of-past}
use Rattle.mp_layout.proofs.laws.what_is_counted_is_the_sum.Goals as goal

pub returns-clause-within : goal.returns-clause-within
returns-clause-within c = sum_of-within

pub returns-clause-past : goal.returns-clause-past
returns-clause-past c = sum_of-past
