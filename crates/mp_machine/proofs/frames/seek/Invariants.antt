use Rattle.std.proofs.Common.{◌≡◌, ◌≤◌, length, take, reverse}
use Rattle.mp_machine.specs.Activations.{seek}
use Rattle.mp_machine.specs.Loads.{paths_of}
use Rattle.mp_machine.specs.Shown.{activations_seen}
use Rattle.mp_machine.proofs.frames.seek.Given as goal

-- what is still to be looked through gives the answer
abbrev pub invariant-outward : goal.invariant-outward
invariant-outward l = record {
  within : l.k ≤ length l.older;
  same : seek (activations_seen (paths_of l.codes) (reverse (take l.k l.older))) l.sought l.depth
      ≡ seek (activations_seen (paths_of l.codes) (reverse l.older)) l.number l.depth;
}

abbrev pub decreases-outward : goal.decreases-outward
decreases-outward l = l.k
