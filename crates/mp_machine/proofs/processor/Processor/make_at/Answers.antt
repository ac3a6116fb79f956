use Rattle.std.proofs.Common.{◌∙◌, ap, arith, subst, sym}
use Rattle.std.proofs.lemmas.Grind.{common_steps}
use Rattle.mp_memory.specs.declared.cells.Cell.TheVariants as cell
use Rattle.mp_machine.specs.Memory.{set_cell}
use Rattle.mp_machine.specs.ObjectRows.{with_object}
use Rattle.mp_machine.specs.Outcomes.{Outcome}
use Rattle.mp_machine.specs.Shown.{Agrees, state_of, world_of}
use Rattle.mp_machine.proofs.ActionLemmas.{then}
use Rattle.mp_machine.proofs.KeptLemmas.{loaded_kept}
use Rattle.mp_machine.proofs.EnterLemmas.{new_limit, new_room}
use Rattle.mp_machine.proofs.processor.Processor.make_at.Goals as goal

pub returns-then-from-object_cells-clause-row : goal.returns-then-from-object_cells-clause-row
returns-then-from-object_cells-clause-row c paths =
    new_limit (world_of paths c.args.self.now) c.args.self.now.store c.args.self.now.operands.items c.args.self.now.newest
    c.args.self.now.older.items c.args.self.now.at
    c.args.a c.args.cells c.args.self.now.used c.object_cells.result c.requires.sound.counts c.object_cells.ensures.value
    (grind (arith, common_steps))

pub returns-clause-row : goal.returns-clause-row
returns-clause-row c paths =
    subst (λ (o : Outcome (Unit {0})). Agrees o c.set_cell.result (state_of paths c.set_cell.new.self))
    (sym (new_room (world_of paths c.args.self.now) c.args.self.now.store c.args.self.now.operands.items c.args.self.now.newest
    c.args.self.now.older.items c.args.self.now.at
    c.args.a c.args.cells c.args.self.now.used c.object_cells.result c.requires.sound.counts c.object_cells.ensures.value
    (grind (arith, common_steps))
    ∙ ap (λ n. set_cell c.args.a (cell.Ptr n) (with_object c.args.cells (state_of paths c.args.self.now))) (let e =
    c.len-number.ensures in let n = c.in_ok-add_object.ensures.count in grind (arith, common_steps, e, n))
    ∙ then (λ x t. set_cell c.args.a (cell.Ptr c.len-number.result) t) (c.in_ok-add_object.ensures.row paths)))
    (c.set_cell.ensures.row paths)

pub returns-clause-loaded : goal.returns-clause-loaded
returns-clause-loaded c n l = loaded_kept c.add_object.new.self c.set_cell.new.self n c.set_cell.ensures.kept
    (c.add_object.ensures.loaded n l)
