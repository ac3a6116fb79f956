use Rattle.std.proofs.Common.{◌≤◌, ◌<◌, length, sym, ap, subst, arith}
use Rattle.mp_base.specs.declared.limits.TheConstants.{TEXT_LIMIT, DECLARATION_LIMIT}
use Rattle.mp_ast.specs.PlainTrees.{trees_of, plain_tree}
use Rattle.mp_ast.specs.Blocks.{tokens_of_all}
use Rattle.mp_ast.specs.SharedTrees.{declarations_of_all}
use Rattle.mp_ast.proofs.SharedLemmas.{tokens_of-node, declarations_of-node}
use Rattle.mp_ast.proofs.shared.SharedTree.new.Goals as goal

pub tokens_in-requires : goal.tokens_in-requires
tokens_in-requires c =
    subst (λ l. tokens_of_all (trees_of plain_tree l) ≤ TEXT_LIMIT) (sym c.as_slice.ensures)
    (omega (arith, tokens_of-node c.args.own c.args.inside, c.requires.small))

pub overflow_add-tokens : goal.overflow_add-tokens
overflow_add-tokens c =
    let own = ap (λ b. b.tokens) c.get-block.ensures.block in
    let inside = ap (λ l. tokens_of_all (trees_of plain_tree l)) c.as_slice.ensures in
    omega (arith, tokens_of-node c.args.own c.args.inside, c.requires.small, c.tokens_in.ensures, own, inside)

pub overflow_cast-declarations : goal.overflow_cast-declarations
overflow_cast-declarations c =
    let own = ap (λ b. length b.declarations) c.get-block.ensures.block in
    omega (arith, declarations_of-node c.args.own c.args.inside, c.requires.few, c.len.ensures, own)

pub declarations_in-requires : goal.declarations_in-requires
declarations_in-requires c =
    subst (λ l. declarations_of_all (trees_of plain_tree l) < DECLARATION_LIMIT) (sym c.as_slice-2.ensures)
    (omega (arith, declarations_of-node c.args.own c.args.inside, c.requires.few))

pub overflow_add-declarations : goal.overflow_add-declarations
overflow_add-declarations c =
    let own = ap (λ b. length b.declarations) c.get-block.ensures.block in
    let inside = ap (λ l. declarations_of_all (trees_of plain_tree l)) c.as_slice-2.ensures in
    omega (arith, declarations_of-node c.args.own c.args.inside, c.requires.few, c.len.ensures, c.declarations_in.ensures, own, inside)

pub invariant_of-result : goal.invariant_of-result
invariant_of-result c =
    let own_tokens = ap (λ b. b.tokens) c.get-block.ensures.block in
    let tokens = ap (λ l. tokens_of_all (trees_of plain_tree l)) c.as_slice.ensures in
    let own_declarations = ap (λ b. length b.declarations) c.get-block.ensures.block in
    let declarations = ap (λ l. declarations_of_all (trees_of plain_tree l)) c.as_slice-2.ensures in
    rw c.in_ok-new.ensures.ok
    (record {
      tree = c.requires;
      tokens = omega (arith, tokens_of-node c.args.own c.args.inside, c.tokens_in.ensures, own_tokens, tokens);
      declarations = omega (arith, declarations_of-node c.args.own c.args.inside, c.len.ensures, c.declarations_in.ensures, own_declarations, declarations);
    })
