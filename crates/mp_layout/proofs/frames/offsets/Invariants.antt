use Rattle.mp_layout.proofs.SumLemmas.{OffsetsSoFar}
use Rattle.mp_layout.proofs.frames.offsets.Given as goal

abbrev pub invariant-loop-size : goal.invariant-loop-size
invariant-loop-size l = OffsetsSoFar l.sizes l.size-index l.out l.start
