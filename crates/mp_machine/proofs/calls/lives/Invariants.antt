use Rattle.std.proofs.Common.{◌≡◌, ◌≤◌, length, reverse, take}
use Rattle.mp_machine.specs.Shown.{is_among}
use Rattle.mp_machine.proofs.calls.lives.Given as goal

-- those that are left tell for all
abbrev pub invariant-outward : goal.invariant-outward
invariant-outward l = record {
  within : l.k ≤ length l.older;
  same : is_among l.number (reverse (take l.k l.older)) ≡ is_among l.number (reverse l.older);
}

abbrev pub decreases-outward : goal.decreases-outward
decreases-outward l = l.k
