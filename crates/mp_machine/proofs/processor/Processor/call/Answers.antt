use Rattle.std.proofs.Common.{length, rules}
use Rattle.mp_machine.proofs.KeptLemmas.{loaded_kept}
use Rattle.mp_machine.proofs.processor.Processor.call.Goals as goal

pub returns-clause-loaded : goal.returns-clause-loaded
returns-clause-loaded c l =
    c.enter.ensures.loaded (length c.args.codes.now) (search rules)
    (loaded_kept c.args.self.now c.take_all.new.self (length c.args.codes.now) c.take_all.ensures.kept l)
