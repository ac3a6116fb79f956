use Rattle.std.proofs.Common.{ap, ◌∙◌, ◌+◌, sym, arith}
use Rattle.std.proofs.lemmas.Bool.{false≢true}
use Rattle.mp_ast.proofs.SharedLemmas.{rest_from}
use Rattle.mp_ast.proofs.TurnLemmas.{entering, entering_at, named_is_small, none_entered, begun_is_small, this_entered, another_number, another_name}
use Rattle.mp_ast.proofs.places.entered.Goals as goal
use Rattle.mp_ast.proofs.places.entered.Goals.{then-same+else-named-step, else-same}

pub nested-init : goal.nested-init
nested-init c =
    entering c.args.around.now c.args.first c.args.step.now _ _ c.own.ensures.tree c.requires
    (c.as_slice-declarations.ensures ∙ ap (λ b. b.declarations) (c.get.ensures.block ∙ c.own.ensures.own)) c.inside-inside.ensures

pub returns-in_default-clause-found : goal.returns-in_default-clause-found
returns-in_default-clause-found c =
    sym (none_entered c.args.around.now c.args.first c.args.step.now _ _ _ _ c.nested.invariant c.in_default.ensures)

pub overflow_add-named : goal.overflow_add-named
overflow_add-named c =
    let s = named_is_small c.args.around.now c.args.first c.args.step.now _ _ _ _ c.nested.invariant in
    omega (arith, s)

pub overflow_add-start : goal.overflow_add-start
overflow_add-start c =
    let r = rest_from c.inside-inside.result.now c.nested.tree-index c.tree-item.result c.nested-test.true c.tree-item.is in
    let s = begun_is_small c.args.around.now c.args.first c.args.step.now _ _ _ _ c.nested.invariant _ c.in-Some.more.now _ _ c.in-Some.ensures r in
    omega (arith, s)

pub overflow_add-start-then-named-step : goal.overflow_add-start-then-named-step
overflow_add-start-then-named-step c =
    let r = rest_from c.inside-inside.result.now c.nested.tree-index c.tree-item.result c.nested-test.true c.tree-item.is in
    let s = begun_is_small c.args.around.now c.args.first c.args.step.now _ _ _ _ c.nested.invariant _ c.in-Some.more.now _ _ c.in-Some.ensures r in
    omega (arith, s)

pub returns-then-named-step-clause-found : goal.returns-then-named-step-clause-found
returns-then-named-step-clause-found c =
    let r = rest_from c.inside-inside.result.now c.nested.tree-index c.tree-item.result c.nested-test.true c.tree-item.is in
    this_entered c.args.around.now c.args.first c.args.step.now _ _ _ _ c.nested.invariant _ c.in-Some.more.now _ _ c.in-Some.ensures r
    (c.same.ensures.0 c.if-same.true) c.if-named-step.true

pub returns-then-named-step-clause-small : goal.returns-then-named-step-clause-small
returns-then-named-step-clause-small c =
    let r = rest_from c.inside-inside.result.now c.nested.tree-index c.tree-item.result c.nested-test.true c.tree-item.is in
    begun_is_small c.args.around.now c.args.first c.args.step.now _ _ _ _ c.nested.invariant _ c.in-Some.more.now _ _ c.in-Some.ensures r

pub nested-preserved : goal.nested-preserved
nested-preserved c =
    let t = c.args.around.now in
    let r = rest_from c.inside-inside.result.now c.nested.tree-index c.tree-item.result c.nested-test.true c.tree-item.is in
    let further = ap (λ n. c.nested.start + n) c.tokens-start.ensures in
    elim c.if-same.branch [
      | then-same+else-named-step w ↦ entering_at _ _ further w.named-is
          (another_number t c.args.first c.args.step.now _ _ _ _ c.nested.invariant _ c.in-Some.more.now _ _ c.in-Some.ensures r (c.same.ensures.0 w.if-same.true)
          w.if-named-step.false)
      | else-same w ↦ entering_at _ _ further w.named-is
          (another_name t c.args.first c.args.step.now _ _ _ _ c.nested.invariant _ c.in-Some.more.now _ _ c.in-Some.ensures r
          (λ e. false≢true (sym w.if-same.false ∙ c.same.ensures.1 e)))
    ]
