use Rattle.std.proofs.Common.{◌+◌, length, None, sym, ap, subst, arith}
use Rattle.mp_ast.specs.SharedTrees.{IsOfAProgram, node}
use Rattle.mp_parse.proofs.ProgramLemmas.{block_shrinks}
use Rattle.mp_parse.proofs.WithinLemmas.{block_within}
use Rattle.mp_parse.proofs.blocks.+blocks.Goals as goal

pub nested_block-resume-requires : goal.nested_block-resume-requires
nested_block-resume-requires t c =
    let l = block_shrinks _ _ _ _ _ _ c.in_ok-own.ensures.reads in
    let s = c.restart-at.ensures.new in
    let r = c.restart-at.ensures.small in
    let e = ap (λ m. length m.rest) s in
    omega arith

pub nested_block-new-requires-2 : goal.nested_block-new-requires-2
nested_block-new-requires-2 t c =
    let s = ap (λ m. m.at + length m.rest) c.restart-at.ensures.new in
    let r = c.restart-at.ensures.small in
    subst (λ b. IsOfAProgram (node b c.in_ok-own.inside)) (sym c.in_ok-own-2.ensures)
    (block_within None _ _ c.in_ok-own.own c.in_ok-own.inside _ c.in_ok-own.ensures.reads (omega (arith, s, r)))
