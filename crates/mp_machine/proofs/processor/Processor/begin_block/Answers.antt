use Rattle.std.proofs.Common.{◌∙◌, ap, arith, replicate, Some}
use Rattle.std.proofs.lemmas.Grind.{common_steps}
use Rattle.mp_memory.specs.declared.cells.Cell.TheVariants as cell
use Rattle.mp_memory.specs.Roots.{roots_of, with_cells_at, with_root}
use Rattle.mp_machine.specs.Outcomes.{Done}
use Rattle.mp_machine.specs.Shown.{world_of}
use Rattle.mp_machine.proofs.EnterLemmas.{begun_roots, entered_shown}
use Rattle.mp_machine.proofs.processor.Processor.begin_block.Goals as goal

pub returns-clause-row : goal.returns-clause-row
returns-clause-row c paths =
    let len = c.len.ensures in
    ap (λ s. Done tt s) (entered_shown (world_of paths c.args.self.now) c.args.self.now.store c.write.new.self
    c.args.self.now.operands.items
    c.args.cells.now c.args.self.now.newest c.args.self.now.older.items c.push.new.self.items c.args.self.now.at
    c.args.code.now c.args.block
    c.args.parent c.in-Ok.number c.len.result c.first_place-self.result c.counted.result
    c.in-Ok.ensures.number (grind (arith, common_steps, len)) c.in-Ok-push.ensures.items c.first_place-self.ensures
    c.counted.ensures.counted
    (begun_roots c.args.self.now.store c.add.new.self c.write.new.self c.args.self.now.store.next c.args.code.now.frame
    c.args.cells.now c.requires.fit
    (λ q. c.in-Ok.ensures.roots q
    ∙ ap (λ r. with_root (roots_of c.args.self.now.store) r (Some (replicate c.frame.result cell.Undef)) q)
    c.in-Ok.ensures.number
    ∙ ap (λ f. with_root (roots_of c.args.self.now.store) c.args.self.now.store.next (Some (replicate f cell.Undef)) q)
    c.frame.ensures)
    (λ q. c.write.ensures.roots q
    ∙ ap (λ r. with_cells_at (roots_of c.add.new.self) r 0 c.get.result.now q) c.in-Ok.ensures.number
    ∙ ap (λ l. with_cells_at (roots_of c.add.new.self) c.args.self.now.store.next 0 l q) c.get.ensures))
    (c.write.ensures.next ∙ c.in-Ok.ensures.next))
