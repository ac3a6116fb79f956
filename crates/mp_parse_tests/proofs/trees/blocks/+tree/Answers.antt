use Rattle.std.proofs.Common.{drop, sym, ap, ◌∙◌, arith}
use Rattle.mp_ast.proofs.SharedLemmas.{rest_from, part_is_smaller}
use Rattle.mp_parse_tests.proofs.trees.blocks.+tree.Goals as goal

pub tree-requires : goal.tree-requires
tree-requires t c =
    let r = rest_from c.inside-inside.result.now c.inside.nested-index c.nested-item.result c.inside-test.true c.nested-item.is in
    let l = part_is_smaller c.args.x.now c.inside.nested-index c.nested-item.result _ (ap (drop c.inside.nested-index) (sym c.inside-inside.ensures) ∙ r) in
    let d = c.decreases in
    omega (arith, d, l)
