use Rattle.mp_meaning.proofs.RunExamples.{shown_texts_run, shown_codes_run}
use Rattle.mp_meaning.proofs.examples.show_example.Goals as goal

pub returns-clause-shown_texts_run : goal.returns-clause-shown_texts_run
returns-clause-shown_texts_run c = shown_texts_run

pub returns-clause-shown_codes_run : goal.returns-clause-shown_codes_run
returns-clause-shown_codes_run c = shown_codes_run
