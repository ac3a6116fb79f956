use Rattle.mp_machine.proofs.KeptLemmas.{loaded_kept}
use Rattle.mp_machine.proofs.processor.Processor.make.Goals as goal

pub returns-clause-loaded : goal.returns-clause-loaded
returns-clause-loaded c n l = c.make_at.ensures.loaded n (loaded_kept c.args.self.now c.take_address.new.self n
    c.take_address.ensures.kept l)
