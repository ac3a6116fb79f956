use Rattle.mp_meaning.proofs.RunExamples.{same_variant_run, other_variant_run, no_variant_run, variant_order_run, hidden_tag_run}
use Rattle.mp_meaning.proofs.examples.choices_example.Goals as goal

pub returns-clause-same_variant_run : goal.returns-clause-same_variant_run
returns-clause-same_variant_run c = same_variant_run

pub returns-clause-other_variant_run : goal.returns-clause-other_variant_run
returns-clause-other_variant_run c = other_variant_run

pub returns-clause-no_variant_run : goal.returns-clause-no_variant_run
returns-clause-no_variant_run c = no_variant_run

pub returns-clause-variant_order_run : goal.returns-clause-variant_order_run
returns-clause-variant_order_run c = variant_order_run

pub returns-clause-hidden_tag_run : goal.returns-clause-hidden_tag_run
returns-clause-hidden_tag_run c = hidden_tag_run
