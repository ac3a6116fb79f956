-- The items before `at` are the same in both lists.
use Rattle.std.proofs.Common.{length, ◌-◌, ◌≡◌, ◌≤◌, take}
use Rattle.mp_ast.proofs.equality.ItemsSame.same.Given as goal

abbrev pub invariant-items : goal.invariant-items
invariant-items g l = (length l.items ≡ length l.others) × (l.at ≤ length l.items) × (take l.at l.items ≡ take l.at l.others)

abbrev pub decreases-items : goal.decreases-items
decreases-items g l = length l.items - l.at
