use Rattle.mp_memory.proofs.Lanes.{covers_is}
use Rattle.mp_memory.proofs.bits.covers.Goals as goal

pub returns : goal.returns
returns c = covers_is c.args.lane c.args.other c.ranges.lane.fits c.ranges.other.fits
