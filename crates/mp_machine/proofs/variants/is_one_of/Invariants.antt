use Rattle.std.proofs.Common.{◌≡◌, drop}
use Rattle.mp_machine.specs.Numbers.{one_of}
use Rattle.mp_machine.proofs.variants.is_one_of.Given as goal

-- the constants that are left tell for all
abbrev pub invariant-constants : goal.invariant-constants
invariant-constants l = one_of l.n (drop l.constant-index l.constants) ≡ one_of l.n l.constants
