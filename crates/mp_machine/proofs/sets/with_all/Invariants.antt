use Rattle.std.proofs.Common.{◌≡◌, ◌-◌}
use Rattle.std.specs.List.{range_with_len}
use Rattle.mp_memory.specs.Sets.{union}
use Rattle.mp_machine.proofs.sets.with_all.Given as goal

abbrev pub invariant-members : goal.invariant-members
invariant-members l = l.all ≡ union l.set (range_with_len l.first (l.member - l.first))
