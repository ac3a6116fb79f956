use Rattle.std.proofs.Common.{ℕ, map, drop, ap, ◌∙◌, ◌+◌, sym, arith}
use Rattle.std.specs.Prelude.{bytes_eq}
use Rattle.std.specs.Option.{unwrap_or}
use Rattle.std.specs.Map.{lookup}
use Rattle.std.proofs.Math.ListN.{drop_of_length-le}
use Rattle.mp_ast.specs.BlockLists.{counted, placed}
use Rattle.mp_ast.proofs.SharedLemmas.{rest_from, part_is_smaller}
use Rattle.mp_ast.proofs.TurnLemmas.{one_listed, listing, counts_are_small, none_listed, end_listed, block_is_small, further_listed, listing_at}
use Rattle.mp_ast.proofs.block_list.+add_blocks.Goals as goal

pub nested-init : goal.nested-init
nested-init t c =
    listing c.args.tree.now c.args.path.now c.args.start _ _ _ _ _ c.own.ensures.tree c.requires
    (c.as_slice-declarations.ensures ∙ ap (λ b. b.declarations) (c.get.ensures.block ∙ c.own.ensures.own)) c.inside-inside.ensures
    (λ name. ap {B = ℕ} (λ entries. unwrap_or (lookup (bytes_eq name) entries) 0) c.new-counts.ensures.empty)
    (one_listed c.args.found.now.items c.args.path.now c.in_ok-copy.field-0 c.args.start c.args.tree.now c.in_ok-copy-2.field-0 c.push.new.self.items
    c.in_ok-push.ensures.items c.in_ok-copy.ensures c.in_ok-copy-2.ensures)

pub returns-in_default : goal.returns-in_default
returns-in_default t c = none_listed c.args.tree.now c.args.path.now _ _ _ _ _ _ c.nested.invariant c.in_default.ensures

pub next_number-requires : goal.next_number-requires
next_number-requires t c = record { few = counts_are_small c.args.tree.now c.args.path.now _ _ _ _ _ _ c.nested.invariant }

pub overflow_add-behind : goal.overflow_add-behind
overflow_add-behind t c =
    let r = rest_from c.inside-inside.result.now c.nested.nested-index c.nested-item.result c.nested-test.true c.nested-item.is in
    let s = block_is_small c.args.tree.now c.args.path.now _ _ _ _ _ _ c.nested.invariant c.in-Some.declaration.now c.in-Some.more.now c.nested-item.result _
    c.in-Some.ensures r in
    omega (arith, s)

pub overflow_add-behind-in-nested : goal.overflow_add-behind-in-nested
overflow_add-behind-in-nested t c =
    let r = rest_from c.inside-inside.result.now c.nested.nested-index c.nested-item.result c.nested-test.true c.nested-item.is in
    let s = block_is_small c.args.tree.now c.args.path.now _ _ _ _ _ _ c.nested.invariant c.in-Some.declaration.now c.in-Some.more.now c.nested-item.result _
    c.in-Some.ensures r in
    omega (arith, s)

pub add_blocks-requires : goal.add_blocks-requires
add_blocks-requires t c =
    let r = rest_from c.inside-inside.result.now c.nested.nested-index c.nested-item.result c.nested-test.true c.nested-item.is in
    let l = part_is_smaller c.args.tree.now c.nested.nested-index c.nested-item.result _ (ap (drop c.nested.nested-index) (sym c.inside-inside.ensures) ∙ r) in
    let d = c.decreases in (
      omega (arith, d, l),
      block_is_small c.args.tree.now c.args.path.now _ _ _ _ _ _ c.nested.invariant c.in-Some.declaration.now c.in-Some.more.now c.nested-item.result _ c.in-Some.ensures r,
    )

pub nested-preserved : goal.nested-preserved
nested-preserved t c =
    let r = rest_from c.inside-inside.result.now c.nested.nested-index c.nested-item.result c.nested-test.true c.nested-item.is in
    listing_at _ (ap (λ n. c.nested.behind + n) c.tokens.ensures)
    (further_listed c.args.tree.now c.args.path.now _ _ _ _ _ _ c.nested.invariant c.in-Some.declaration.now c.in-Some.more.now c.nested-item.result _ c.in-Some.ensures r
    c.in_ok-inner.inner c.in_ok-nth.nth (counted c.next_number.new.counts) (map placed c.add_blocks.new.found.items)
    c.in_ok-inner.ensures c.in_ok-nth.ensures.number c.in_ok-nth.ensures.counts c.in_ok-add_blocks.ensures)

pub returns : goal.returns
returns t c =
    end_listed c.args.tree.now c.args.path.now _ _ _ _ _ _ c.nested.invariant
    (drop_of_length-le c.inside-inside.result.now (omega (arith, c.nested-test.false)))
