use Rattle.mp_ast.proofs.FirstErrorExamples.{ends_early_example, wrong_example}
use Rattle.mp_ast.proofs.LimitExamples.{one_too_deep, one_too_many, too_deep_and_too_many}
use Rattle.mp_ast.proofs.FollowsExample.{follows_example}
use Rattle.mp_ast.proofs.examples.first_error_example.Goals as goal

pub returns-clause-early : goal.returns-clause-early
returns-clause-early c = ends_early_example

pub returns-clause-wrong : goal.returns-clause-wrong
returns-clause-wrong c = wrong_example

pub returns-clause-deep : goal.returns-clause-deep
returns-clause-deep c = one_too_deep

pub returns-clause-many : goal.returns-clause-many
returns-clause-many c = one_too_many

pub returns-clause-both : goal.returns-clause-both
returns-clause-both c = too_deep_and_too_many

pub returns-clause-after : goal.returns-clause-after
returns-clause-after c = follows_example
