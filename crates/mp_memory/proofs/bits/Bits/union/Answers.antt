use Rattle.mp_memory.proofs.Lanes.{union_is}
use Rattle.mp_memory.proofs.bits.Bits.union.Goals as goal

pub returns : goal.returns
returns c = union_is c.args.self.now c.args.other.now
