use Rattle.std.proofs.Math.ListN.{drop_of_length-le}
use Rattle.mp_ast.proofs.SharedLemmas.{rest_from}
use Rattle.mp_ast.proofs.TurnLemmas.{descending, further_down, no_place, place_reached}
use Rattle.mp_ast.proofs.shared.SharedTree.index_of.Goals as goal

pub steps-init : goal.steps-init
steps-init c = descending c.args.self.now c.args.place.now _ c.own-own.ensures.tree c.steps-steps.ensures

pub entered-requires : goal.entered-requires
entered-requires c = c.steps.invariant.small

pub index_at-requires : goal.index_at-requires
index_at-requires c = c.steps.invariant.small

pub returns-in_default : goal.returns-in_default
returns-in_default c =
    let r = rest_from c.steps-steps.result.now c.steps.step-index c.step-item.result c.steps-test.true c.step-item.is in
    no_place c.args.self.now c.args.place.now _ _ _ c.steps.invariant c.step-item.result _ r c.in_default.ensures.found

pub steps-preserved : goal.steps-preserved
steps-preserved c =
    let r = rest_from c.steps-steps.result.now c.steps.step-index c.step-item.result c.steps-test.true c.step-item.is in
    further_down c.args.self.now c.args.place.now _ _ _ c.steps.invariant c.step-item.result _ c.in-Some.nested.start c.in-Some.nested.tree.now r
    c.in-Some.ensures.found c.in-Some.ensures.small

pub returns : goal.returns
returns c =
    place_reached c.args.self.now c.args.place.now _ _ _ c.steps.invariant c.index_at.result
    (drop_of_length-le c.steps-steps.result.now c.steps-test.false) c.index_at.ensures
