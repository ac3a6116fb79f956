use Rattle.std.proofs.Common.{arith}
use Rattle.mp_layout.proofs.SumLemmas.{sum_of-small}
use Rattle.mp_layout.proofs.counts.sum_of.Goals as goal

pub loop-size-init : goal.loop-size-init
loop-size-init c = record { small = omega arith; rest = omega (arith, sum_of-small c.args.sizes.now) }
