use Rattle.std.proofs.Common.{◌≡◌, ◌≤◌, drop, length, map}
use Rattle.mp_code.specs.Drafts.{draft_code, is_wrong_target}
use Rattle.mp_code.specs.Shape.{least_that}
use Rattle.mp_code.proofs.check.Draft.least_wrong_label.Given as goal

-- the least of those that were looked at, from the last one on
abbrev pub invariant-labels : goal.invariant-labels
invariant-labels l = record {
  within : l.left ≤ length l.fn.self.labels.items;
  least : l.least ≡ least_that (is_wrong_target (draft_code l.fn.self)) (map (λ pair. pair.1) (drop l.left l.fn.self.labels.items));
}

abbrev pub decreases-labels : goal.decreases-labels
decreases-labels l = l.left
