use Rattle.std.proofs.Common.{arith, ap, ◌∙◌}
use Rattle.mp_script.specs.Access.{after}
use Rattle.mp_script.proofs.FormLemmas.{form_more, form_end}
use Rattle.mp_script.proofs.access.have_form.Goals as goal

pub tokens-preserved : goal.tokens-preserved
tokens-preserved c = form_more c.args.tokens.now c.tokens.token-index c.token-item.result c.tokens.stage c.after-stage.result
    (omega arith) c.token-item.is c.tokens.invariant (c.after-stage.ensures ∙ ap (after c.tokens.stage) c.part_of.ensures)

pub returns : goal.returns
returns c = c.is_complete.ensures ∙ form_end c.args.tokens.now c.tokens.token-index c.tokens.stage (omega arith) c.tokens.invariant
