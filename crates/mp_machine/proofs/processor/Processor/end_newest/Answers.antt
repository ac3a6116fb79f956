use Rattle.mp_machine.specs.Shown.{world_of}
use Rattle.mp_machine.proofs.EnterLemmas.{ended_shown}
use Rattle.mp_machine.proofs.processor.Processor.end_newest.Goals as goal

pub returns-in-Some-clause-row : goal.returns-in-Some-clause-row
returns-in-Some-clause-row c paths =
    ended_shown (world_of paths c.args.self.now) c.args.self.now.store c.drop_root.new.self c.args.self.now.operands.items
    c.truncate.new.self.items
    c.args.self.now.newest c.in-Some.caller c.args.self.now.older.items c.pop.new.self.items c.args.self.now.at
    c.in-Some.ensures.items c.truncate.ensures.items c.drop_root.ensures.roots c.drop_root.ensures.next
