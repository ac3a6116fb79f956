use Rattle.std.proofs.Common.{length}
use Rattle.mp_machine.proofs.processor.Processor.leave.Goals as goal

pub label_at-requires : goal.label_at-requires
label_at-requires c = (c.end_until.ensures.loaded (length c.args.codes.now) c.requires.loaded).blocks.0

pub returns-in-Some-clause-loaded : goal.returns-in-Some-clause-loaded
returns-in-Some-clause-loaded c l =
    c.go_on_without_operands.ensures.loaded (length c.args.codes.now) (c.end_until.ensures.loaded (length c.args.codes.now) l)

pub returns-in-None-clause-loaded : goal.returns-in-None-clause-loaded
returns-in-None-clause-loaded c l = c.end_until.ensures.loaded (length c.args.codes.now) l
