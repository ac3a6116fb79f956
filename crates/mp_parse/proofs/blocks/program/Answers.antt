use Rattle.std.proofs.Common.{sym, ap, ◌∙◌, subst}
use Rattle.mp_ast.specs.declared.blocks.Block.{Block}
use Rattle.mp_ast.specs.SharedTrees.{IsOfAProgram, node}
use Rattle.mp_parse.proofs.WithinLemmas.{program_within}
use Rattle.mp_parse.proofs.blocks.program.Goals as goal

pub new-requires-3 : goal.new-requires-3
new-requires-3 c =
    let own =
    c.in_ok-own-3.ensures ∙ ap {A = Block} (λ b. record b { tokens = c.at.result }) (c.into_inner-own.ensures ∙ c.in_ok-own-2.ensures) ∙
    ap (λ n. record c.in_ok-own.own { tokens = n }) c.at.ensures.at in
    subst (λ b. IsOfAProgram (node b c.in_ok-own.inside)) (sym own)
    (program_within _ _ _ c.expect.new.self c.in_ok-heading.heading c.in_ok-own.own c.in_ok-own.inside c.in_ok-expect.field-0
    c.in_ok-heading.ensures c.in_ok-own.ensures.reads c.in_ok-expect.ensures.reads c.requires)
