use Rattle.std.proofs.Common.{◌∙◌, ap, arith, subst, sym}
use Rattle.std.proofs.lemmas.Grind.{common_steps}
use Rattle.mp_machine.specs.CallRows as call
use Rattle.mp_machine.specs.Outcomes.{Outcome}
use Rattle.mp_machine.specs.Shown.{Agrees, state_of, world_of}
use Rattle.mp_machine.proofs.EnterLemmas.{return_shown}
use Rattle.mp_machine.proofs.processor.Processor.end.Goals as goal

pub returns-in-Some-clause-row : goal.returns-in-Some-clause-row
returns-in-Some-clause-row c paths =
    subst (λ (o : Outcome (Unit {0})). Agrees o c.end_with.result (state_of paths c.end_with.new.self))
    (sym (ap (λ o. call.«return» o (state_of paths c.args.self.now)) c.in-Some.is
    ∙ return_shown (world_of paths c.args.self.now) c.args.self.now.store c.args.self.now.operands.items c.args.self.now.newest
    c.args.self.now.older.items c.args.self.now.at c.in-Some.offset (grind (arith, common_steps))))
    (c.end_with.ensures.row paths)
