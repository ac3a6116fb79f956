use Rattle.std.proofs.Common.{arith, subst, sym}
use Rattle.std.proofs.lemmas.Grind.{common_steps}
use Rattle.mp_machine.specs.CallRows as call
use Rattle.mp_machine.specs.Outcomes.{Done, Outcome}
use Rattle.mp_machine.specs.Shown.{Agrees, state_of, world_of}
use Rattle.mp_machine.proofs.KeptLemmas.{loaded_kept}
use Rattle.mp_machine.proofs.EnterLemmas.{enter_limit_1, enter_limit_2, enter_room}
use Rattle.mp_machine.proofs.processor.Processor.enter.Goals as goal

pub returns-then-len-ge-ACTIVATION_LIMIT-clause-row : goal.returns-then-len-ge-ACTIVATION_LIMIT-clause-row
returns-then-len-ge-ACTIVATION_LIMIT-clause-row c paths =
    enter_limit_1 (world_of paths c.args.self.now) c.args.self.now.store c.args.self.now.operands.items c.args.self.now.newest
    c.args.self.now.older.items
    c.args.self.now.at c.args.code.now (paths c.args.block) c.args.parent c.args.cells.now
    (grind (arith, common_steps)) (grind (arith, common_steps))

pub returns-then-from-object_cells-clause-row : goal.returns-then-from-object_cells-clause-row
returns-then-from-object_cells-clause-row c paths =
    enter_limit_2 (world_of paths c.args.self.now) c.args.self.now.store c.args.self.now.operands.items c.args.self.now.newest
    c.args.self.now.older.items
    c.args.self.now.at c.args.code.now (paths c.args.block) c.args.parent c.args.cells.now
    c.args.self.now.used c.object_cells.result c.requires.sound.counts c.object_cells.ensures.value
    (grind (arith, common_steps)) (grind (arith, common_steps)) (grind (arith, common_steps))

pub returns-clause-row : goal.returns-clause-row
returns-clause-row c paths =
    subst (λ (o : Outcome (Unit {0})). Agrees o c.begin_block.result (state_of paths c.begin_block.new.self))
    (sym (enter_room (world_of paths c.args.self.now) c.args.self.now.store c.args.self.now.operands.items
    c.args.self.now.newest c.args.self.now.older.items
    c.args.self.now.at c.args.code.now (paths c.args.block) c.args.parent c.args.cells.now
    c.args.self.now.used c.object_cells.result c.requires.sound.counts c.object_cells.ensures.value
    (grind (arith, common_steps)) (grind (arith, common_steps)) (grind (arith, common_steps))))
    (subst (λ s. Agrees (Done tt (call.entered c.args.code.now (paths c.args.block) c.args.parent c.args.cells.now s)) c.begin_block.result
    (state_of paths c.begin_block.new.self)) (c.make_room.ensures.state paths) (c.begin_block.ensures.row paths))

pub returns-clause-loaded : goal.returns-clause-loaded
returns-clause-loaded c n within l =
    c.begin_block.ensures.loaded n within (loaded_kept c.args.self.now c.make_room.new.self n c.make_room.ensures.kept l)
