use Rattle.std.proofs.Common.{ap, ◌∙◌, ◌+◌, arith}
use Rattle.std.proofs.Math.ListN.{drop_of_length-le}
use Rattle.mp_ast.proofs.SharedLemmas.{rest_from}
use Rattle.mp_ast.proofs.TurnLemmas.{no_own_index, indexing, indexing_at, last_index, end_index, this_index, further_index}
use Rattle.mp_ast.proofs.places.index_at.Goals as goal

pub returns-then-ordinal-own : goal.returns-then-ordinal-own
returns-then-ordinal-own c =
    let e = ap (λ b. b.tokens) (c.get-own.ensures.block ∙ c.own.ensures.own) in
    no_own_index c.args.block.now c.args.first c.args.ordinal (omega (arith, c.if-ordinal-own.true, e))

pub nested-init : goal.nested-init
nested-init c =
    let own = c.get-own.ensures.block ∙ c.own.ensures.own in
    let e = ap (λ b. b.tokens) own in
    indexing c.args.block.now c.args.first c.args.ordinal _ _ c.own.ensures.tree c.requires (omega (arith, c.if-ordinal-own.false, e))
    (c.as_slice-declarations.ensures ∙ ap (λ b. b.declarations) own) c.inside-inside.ensures

pub returns-in_default : goal.returns-in_default
returns-in_default c = last_index c.args.block.now c.args.first c.args.ordinal _ _ _ c.nested.invariant c.in_default.ensures

pub returns-then-ordinal-declaration : goal.returns-then-ordinal-declaration
returns-then-ordinal-declaration c =
    let r = rest_from c.inside-inside.result.now c.nested.tree-index c.tree-item.result c.nested-test.true c.tree-item.is in
    this_index c.args.block.now c.args.first c.args.ordinal _ _ _ c.nested.invariant _ c.in-Some.more.now _ _ c.in-Some.ensures r c.if-ordinal-declaration.true

pub nested-preserved : goal.nested-preserved
nested-preserved c =
    let r = rest_from c.inside-inside.result.now c.nested.tree-index c.tree-item.result c.nested-test.true c.tree-item.is in
    indexing_at _ (ap (λ n. c.nested.start + n) c.tokens-start.ensures)
    (further_index c.args.block.now c.args.first c.args.ordinal _ _ _ c.nested.invariant _ c.in-Some.more.now _ _ c.in-Some.ensures r
    (omega (arith, c.if-ordinal-declaration.false)))

pub returns : goal.returns
returns c =
    end_index c.args.block.now c.args.first c.args.ordinal _ _ _ c.nested.invariant
    (drop_of_length-le c.inside-inside.result.now (omega (arith, c.nested-test.false)))
