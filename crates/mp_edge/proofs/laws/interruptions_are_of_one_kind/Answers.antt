use Rattle.mp_edge.proofs.InterruptLemmas.{interrupt_decided}
use Rattle.mp_edge.proofs.laws.interruptions_are_of_one_kind.Goals as goal

pub returns : goal.returns
returns c = interrupt_decided
