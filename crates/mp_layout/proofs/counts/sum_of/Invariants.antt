use Rattle.mp_layout.proofs.SumLemmas.{SumSoFar}
use Rattle.mp_layout.proofs.counts.sum_of.Given as goal

abbrev pub invariant-loop-size : goal.invariant-loop-size
invariant-loop-size l = SumSoFar l.sizes l.size-index l.sum
