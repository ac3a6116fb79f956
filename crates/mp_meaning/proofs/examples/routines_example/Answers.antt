use Rattle.mp_meaning.proofs.RunExamples.{parameter_kinds_run, handed_on_run, jumps_far_run, told_run}
use Rattle.mp_meaning.proofs.examples.routines_example.Goals as goal

pub returns-clause-parameter_kinds_run : goal.returns-clause-parameter_kinds_run
returns-clause-parameter_kinds_run c = parameter_kinds_run

pub returns-clause-handed_on_run : goal.returns-clause-handed_on_run
returns-clause-handed_on_run c = handed_on_run

pub returns-clause-jumps_far_run : goal.returns-clause-jumps_far_run
returns-clause-jumps_far_run c = jumps_far_run

pub returns-clause-told_run : goal.returns-clause-told_run
returns-clause-told_run c = told_run
