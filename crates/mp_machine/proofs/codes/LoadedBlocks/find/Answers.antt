use Rattle.std.proofs.Common.{◌∙◌, sym, arith}
use Rattle.std.proofs.lemmas.Grind.{common_steps}
use Rattle.mp_machine.proofs.PathLemmas.{found_by, not_there}
use Rattle.mp_machine.proofs.codes.LoadedBlocks.find.Goals as goal

pub returns-then-is_same-clause-found : goal.returns-then-is_same-clause-found
returns-then-is_same-clause-found c =
    found_by c.args.self.now c.self.inside.blocks.items c.args.path.now c.blocks-2.place c.index.result.now (sym c.self.view_is)
    (grind (arith, common_steps)) c.index.ensures (sym c.is_same.ensures ∙ c.if-is_same.true) c.blocks-2.invariant

pub blocks-2-preserved : goal.blocks-2-preserved
blocks-2-preserved c =
    not_there c.args.self.now c.self.inside.blocks.items c.args.path.now c.blocks-2.place c.index.result.now
    (sym c.self.view_is)
    (grind (arith, common_steps)) c.index.ensures (sym c.is_same.ensures ∙ c.if-is_same.false) c.blocks-2.invariant
