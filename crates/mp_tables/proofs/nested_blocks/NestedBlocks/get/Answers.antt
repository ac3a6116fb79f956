use Rattle.std.proofs.Common.{ap, sym, ◌∙◌, find}
use Rattle.std.specs.Option.{option_copied}
use Rattle.mp_ast.specs.Blocks.{same_step}
use Rattle.mp_tables.proofs.LookupLemmas.{index_get}
use Rattle.mp_tables.proofs.nested_blocks.NestedBlocks.get.Goals as goal

pub returns-in-Some : goal.returns-in-Some
returns-in-Some c =
    let found = sym (ap option_copied c.in-Some.is) ∙ c.get.ensures.value in
    c.get-in-Some.ensures.value
    ∙ index_get same_step (λ step x. same_step step x.step) c.self.invariant c.args.step.now _ found
    ∙ ap (find (λ x. same_step c.args.step.now x.step)) c.self.view_is

pub returns-in-None : goal.returns-in-None
returns-in-None c =
    let found = sym (ap option_copied c.in-None.is) ∙ c.get.ensures.value in
    index_get same_step (λ step x. same_step step x.step) c.self.invariant c.args.step.now _ found
    ∙ ap (find (λ x. same_step c.args.step.now x.step)) c.self.view_is
