use Rattle.mp_memory.proofs.Lanes.{empty_is}
use Rattle.mp_memory.proofs.bits.Bits.empty.Goals as goal

pub returns : goal.returns
returns c = empty_is
