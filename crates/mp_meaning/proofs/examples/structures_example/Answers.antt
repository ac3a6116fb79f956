use Rattle.mp_meaning.proofs.RunExamples.{pack_run, unpack_run, undefined_string_run, string_run, set_run}
use Rattle.mp_meaning.proofs.examples.structures_example.Goals as goal

pub returns-clause-pack_run : goal.returns-clause-pack_run
returns-clause-pack_run c = pack_run

pub returns-clause-unpack_run : goal.returns-clause-unpack_run
returns-clause-unpack_run c = unpack_run

pub returns-clause-undefined_string_run : goal.returns-clause-undefined_string_run
returns-clause-undefined_string_run c = undefined_string_run

pub returns-clause-string_run : goal.returns-clause-string_run
returns-clause-string_run c = string_run

pub returns-clause-set_run : goal.returns-clause-set_run
returns-clause-set_run c = set_run
