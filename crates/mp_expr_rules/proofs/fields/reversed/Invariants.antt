use Rattle.std.proofs.Common.{◌≡◌, ◌++◌, length, reverse}
use Rattle.mp_expr_rules.proofs.fields.reversed.Given as goal

abbrev pub invariant-items : goal.invariant-items
invariant-items g l = l.out ++ reverse l.rest ≡ reverse l.initial.rest

abbrev pub decreases-items : goal.decreases-items
decreases-items g l = length l.rest
