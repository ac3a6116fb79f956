use Rattle.std.proofs.Common.{◌≡◌, drop}
use Rattle.mp_machine.specs.CallRows as call
use Rattle.mp_machine.proofs.jumps.arm_of.Given as goal

-- the arms that are left tell for all
abbrev pub invariant-arms : goal.invariant-arms
invariant-arms l = call.arm_of (drop l.arm-index l.arms) l.i ≡ call.arm_of l.arms l.i
