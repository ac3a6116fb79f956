use Rattle.mp_meaning.proofs.RunExamples.{copy_run, eof_run, own_file_run, page_run, standard_file_run}
use Rattle.mp_meaning.proofs.examples.files_example.Goals as goal

pub returns-clause-copy_run : goal.returns-clause-copy_run
returns-clause-copy_run c = copy_run

pub returns-clause-eof_run : goal.returns-clause-eof_run
returns-clause-eof_run c = eof_run

pub returns-clause-own_file_run : goal.returns-clause-own_file_run
returns-clause-own_file_run c = own_file_run

pub returns-clause-page_run : goal.returns-clause-page_run
returns-clause-page_run c = page_run

pub returns-clause-standard_file_run : goal.returns-clause-standard_file_run
returns-clause-standard_file_run c = standard_file_run
