use Rattle.std.proofs.Common.{◌≡◌, ◌<◌, ℕ, pos, true}
use Rattle.mp_memory.specs.Sets.{is_member}
use Rattle.mp_machine.specs.Numbers.{lies_in}
use Rattle.mp_machine.proofs.sets.lie_between.Given as goal

abbrev pub invariant-members : goal.invariant-members
invariant-members l = (n : ℕ) → n < l.member → is_member n l.set ≡ true → lies_in l.low l.high (pos n) ≡ true
