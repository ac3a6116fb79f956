use Rattle.mp_memory.proofs.Lanes.{meet_is}
use Rattle.mp_memory.proofs.bits.Bits.meet.Goals as goal

pub returns : goal.returns
returns c = meet_is c.args.self.now c.args.other.now
