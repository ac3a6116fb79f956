use Rattle.std.proofs.Common.{◌∙◌, ◌-◌, ap, arith, drop, sym, take}
use Rattle.std.proofs.lemmas.Grind.{common_steps}
use Rattle.std.proofs.lemmas.List.{take_rest}
use Rattle.mp_machine.specs.Outcomes.{Done}
use Rattle.mp_machine.specs.Shown.{all_cells, shown, world_of}
use Rattle.mp_machine.proofs.PassedLemmas.{take_all_lacks, take_all_shown}
use Rattle.mp_machine.proofs.processor.Processor.take_all.Goals as goal

pub returns-then-saturating_sub-count-clause-row : goal.returns-then-saturating_sub-count-clause-row
returns-then-saturating_sub-count-clause-row c paths =
    take_all_lacks c.args.operands (world_of paths c.args.self.now) c.args.self.now.store c.args.self.now.operands.items
    c.args.self.now.newest
    c.args.self.now.older.items c.args.self.now.at (grind (arith, common_steps))

pub returns-clause-row : goal.returns-clause-row
returns-clause-row c paths =
    take_all_shown c.args.operands (c.len-have.result - c.args.operands) (world_of paths c.args.self.now) c.args.self.now.store
    c.args.self.now.operands.items c.args.self.now.newest c.args.self.now.older.items c.args.self.now.at
    (grind (arith, common_steps)) (grind (arith, common_steps))
    ∙ ap (λ cells. Done cells (shown (world_of paths c.args.self.now) c.args.self.now.store
    (take (c.len-have.result - c.args.operands) c.args.self.now.operands.items) c.args.self.now.newest
    c.args.self.now.older.items c.args.self.now.at))
    (sym (c.in-Ok.ensures ∙ ap all_cells (take_rest c.deref.result.now (c.len-have.result - c.args.operands)
    ∙ ap (drop (c.len-have.result - c.args.operands)) c.deref.ensures.value)))
    ∙ ap (λ ys. Done c.in-Ok.cells (shown (world_of paths c.args.self.now) c.args.self.now.store ys c.args.self.now.newest
    c.args.self.now.older.items c.args.self.now.at)) (sym c.truncate.ensures.items)
