use Rattle.mp_meaning.proofs.RunExamples.{operands_run, members_run, for_first_run, after_for_run, later_test_run, read_order_run, write_order_run, put_order_run, disposed_order_run, dispose_order_run, hole_order_run, limit_order_run, new_order_run, charge_order_run, pack_order_run}
use Rattle.mp_meaning.proofs.examples.orders_example.Goals as goal

pub returns-clause-operands_run : goal.returns-clause-operands_run
returns-clause-operands_run c = operands_run

pub returns-clause-members_run : goal.returns-clause-members_run
returns-clause-members_run c = members_run

pub returns-clause-for_first_run : goal.returns-clause-for_first_run
returns-clause-for_first_run c = for_first_run

pub returns-clause-after_for_run : goal.returns-clause-after_for_run
returns-clause-after_for_run c = after_for_run

pub returns-clause-later_test_run : goal.returns-clause-later_test_run
returns-clause-later_test_run c = later_test_run

pub returns-clause-read_order_run : goal.returns-clause-read_order_run
returns-clause-read_order_run c = read_order_run

pub returns-clause-write_order_run : goal.returns-clause-write_order_run
returns-clause-write_order_run c = write_order_run

pub returns-clause-put_order_run : goal.returns-clause-put_order_run
returns-clause-put_order_run c = put_order_run

pub returns-clause-disposed_order_run : goal.returns-clause-disposed_order_run
returns-clause-disposed_order_run c = disposed_order_run

pub returns-clause-dispose_order_run : goal.returns-clause-dispose_order_run
returns-clause-dispose_order_run c = dispose_order_run

pub returns-clause-hole_order_run : goal.returns-clause-hole_order_run
returns-clause-hole_order_run c = hole_order_run

pub returns-clause-limit_order_run : goal.returns-clause-limit_order_run
returns-clause-limit_order_run c = limit_order_run

pub returns-clause-new_order_run : goal.returns-clause-new_order_run
returns-clause-new_order_run c = new_order_run

pub returns-clause-charge_order_run : goal.returns-clause-charge_order_run
returns-clause-charge_order_run c = charge_order_run

pub returns-clause-pack_order_run : goal.returns-clause-pack_order_run
returns-clause-pack_order_run c = pack_order_run
