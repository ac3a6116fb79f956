use Rattle.std.proofs.Common.{length, subst, sym}
use Rattle.mp_code.specs.declared.instructions.Operation.{Operation}
use Rattle.mp_machine.specs.Loads.{paths_of}
use Rattle.mp_machine.specs.Shown.{Agrees, state_of}
use Rattle.mp_machine.specs.Table.{row}
use Rattle.mp_machine.proofs.processor.Processor.play.Goals as goal

pub returns-in-StoreMany-clause-row : goal.returns-in-StoreMany-clause-row
returns-in-StoreMany-clause-row c =
    subst (λ (o : Operation). Agrees (row c.args.codes.now o (state_of (paths_of c.args.codes.now) c.args.self.now)) c.store_many.result
    (state_of (paths_of c.args.codes.now) c.store_many.new.self))
    (sym c.in-StoreMany.is) (c.store_many.ensures.row (paths_of c.args.codes.now) c.in-StoreMany.cells)

pub returns-in-Return-clause-loaded : goal.returns-in-Return-clause-loaded
returns-in-Return-clause-loaded c = c.end.ensures.loaded (length c.args.codes.now) c.requires.loaded

pub returns-in-New-clause-loaded : goal.returns-in-New-clause-loaded
returns-in-New-clause-loaded c = c.make.ensures.loaded (length c.args.codes.now) c.requires.loaded

pub returns-in-Dispose-clause-loaded : goal.returns-in-Dispose-clause-loaded
returns-in-Dispose-clause-loaded c = c.dispose.ensures.loaded (length c.args.codes.now) c.requires.loaded
