use Rattle.std.proofs.Common.{length, ◌-◌}
use Rattle.mp_types.proofs.CongruityLemmas.{Rest}
use Rattle.mp_types.proofs.congruity.congruous_lists.Given as goal

abbrev pub invariant-pairs : goal.invariant-pairs
invariant-pairs l = Rest l.a l.b l.at

abbrev pub decreases-pairs : goal.decreases-pairs
decreases-pairs l = length l.a - l.at
