use Rattle.mp_memory.proofs.SetLemmas.{numbers_are}
use Rattle.mp_memory.proofs.laws.numbers_are_a_range.Goals as goal

pub returns : goal.returns
returns c = numbers_are
