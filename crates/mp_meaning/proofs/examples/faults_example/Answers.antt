use Rattle.mp_meaning.proofs.RunExamples.{large_run, divisor_run, no_value_run, undefined_run, outside_type_run, member_run, index_run, nil_run, no_result_run, parameter_run, for_order_run, file_state_run, width_fault_run}
use Rattle.mp_meaning.proofs.examples.faults_example.Goals as goal

pub returns-clause-large_run : goal.returns-clause-large_run
returns-clause-large_run c = large_run

pub returns-clause-divisor_run : goal.returns-clause-divisor_run
returns-clause-divisor_run c = divisor_run

pub returns-clause-no_value_run : goal.returns-clause-no_value_run
returns-clause-no_value_run c = no_value_run

pub returns-clause-undefined_run : goal.returns-clause-undefined_run
returns-clause-undefined_run c = undefined_run

pub returns-clause-outside_type_run : goal.returns-clause-outside_type_run
returns-clause-outside_type_run c = outside_type_run

pub returns-clause-member_run : goal.returns-clause-member_run
returns-clause-member_run c = member_run

pub returns-clause-index_run : goal.returns-clause-index_run
returns-clause-index_run c = index_run

pub returns-clause-nil_run : goal.returns-clause-nil_run
returns-clause-nil_run c = nil_run

pub returns-clause-no_result_run : goal.returns-clause-no_result_run
returns-clause-no_result_run c = no_result_run

pub returns-clause-parameter_run : goal.returns-clause-parameter_run
returns-clause-parameter_run c = parameter_run

pub returns-clause-for_order_run : goal.returns-clause-for_order_run
returns-clause-for_order_run c = for_order_run

pub returns-clause-file_state_run : goal.returns-clause-file_state_run
returns-clause-file_state_run c = file_state_run

pub returns-clause-width_fault_run : goal.returns-clause-width_fault_run
returns-clause-width_fault_run c = width_fault_run
