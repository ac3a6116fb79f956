use Rattle.std.proofs.Common.{rules}
use Rattle.std.specs.IoError.{error_kind}
use Rattle.mp_edge.proofs.InterruptLemmas.{interrupt_told}
use Rattle.mp_edge.proofs.tries.is_interrupted.Goals as goal

pub returns-clause-test : goal.returns-clause-test
returns-clause-test c = interrupt_told (error_kind c.args.error.now) c.eq.result (search rules)
