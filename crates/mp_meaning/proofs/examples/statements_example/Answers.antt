use Rattle.mp_meaning.proofs.RunExamples.{empty_run, if_run, case_run, repeat_run, downto_run, not_entered_run, for_limit_run, with_run, goto_back_run, goto_around_run}
use Rattle.mp_meaning.proofs.examples.statements_example.Goals as goal

pub returns-clause-empty_run : goal.returns-clause-empty_run
returns-clause-empty_run c = empty_run

pub returns-clause-if_run : goal.returns-clause-if_run
returns-clause-if_run c = if_run

pub returns-clause-case_run : goal.returns-clause-case_run
returns-clause-case_run c = case_run

pub returns-clause-repeat_run : goal.returns-clause-repeat_run
returns-clause-repeat_run c = repeat_run

pub returns-clause-downto_run : goal.returns-clause-downto_run
returns-clause-downto_run c = downto_run

pub returns-clause-not_entered_run : goal.returns-clause-not_entered_run
returns-clause-not_entered_run c = not_entered_run

pub returns-clause-for_limit_run : goal.returns-clause-for_limit_run
returns-clause-for_limit_run c = for_limit_run

pub returns-clause-with_run : goal.returns-clause-with_run
returns-clause-with_run c = with_run

pub returns-clause-goto_back_run : goal.returns-clause-goto_back_run
returns-clause-goto_back_run c = goto_back_run

pub returns-clause-goto_around_run : goal.returns-clause-goto_around_run
returns-clause-goto_around_run c = goto_around_run
