use Rattle.std.proofs.Common.{rules}
use Rattle.std.specs.Cmp.Lexicographic.{pointwise_decides}
use Rattle.mp_base.proofs.laws.keys_are_told_apart.Goals as goal

pub returns-clause-paths : goal.returns-clause-paths
returns-clause-paths c = pointwise_decides (λ a b. search rules)
