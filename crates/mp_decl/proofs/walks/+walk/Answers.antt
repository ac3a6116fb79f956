use Rattle.std.proofs.Common.{◌++◌, [], ◌∷◌, refl, ap, ◌∙◌}
use Rattle.std.proofs.lemmas.Result.{on_ok_weaker}
use Rattle.mp_ast.specs.PlainStatements as plain
use Rattle.mp_ast.specs.PlainStatements.{plain_statement, plain_statements, plain_head, arms_of}
use Rattle.mp_ast.proofs.PlainStatementLemmas.{plain_statement-Labelled, plain_statement-Empty, plain_statement-Assign, plain_statement-Call, plain_statement-Goto, plain_statement-Compound, plain_statement-If, plain_statement-IfElse, plain_statement-Case, plain_statement-While, plain_statement-Repeat, plain_statement-For, plain_statement-With}
use Rattle.mp_decl.proofs.WalkLemmas.{walks_on, walks_silent, walks_labelled, walks_for, walks_assign, rest_all, rest_end, rest_next, arms_end, arms_next}
use Rattle.mp_decl.proofs.walks.+walk.Goals as goal

pub compound-init : goal.compound-init
compound-init t c = rest_all _ _

pub arms-init : goal.arms-init
arms-init t c = rest_all _ _

pub repeated-init : goal.repeated-init
repeated-init t c = rest_all _ _

pub compound-preserved : goal.compound-preserved
compound-preserved t c =
    rest_next c.as_slice-s-items.result.now c.compound.s-index c.s-item.result c.compound-test.true c.s-item.is c.compound.invariant c.in_ok-walk-in-Compound.ensures

pub repeated-preserved : goal.repeated-preserved
repeated-preserved t c =
    rest_next c.as_slice-s-items-in-Repeat.result.now c.repeated.s-index c.s-item-in-repeated.result c.repeated-test.true c.s-item-in-repeated.is c.repeated.invariant c.in_ok-walk-in-Repeat.ensures

pub arms-preserved : goal.arms-preserved
arms-preserved t c =
    arms_next c.as_slice-arm-items.result.now c.arms.arm-index c.arm-item.result c.arms-test.true c.arm-item.is c.arms.invariant c.in_ok-walk-in-Case.ensures

pub returns-after-compound : goal.returns-after-compound
returns-after-compound t c =
    rw (c.in-Compound.is, plain_statement-Compound)
    (walks_on (walks_silent c.args.out.now (plain.Compound _ _) refl refl refl)
    (rest_end c.as_slice-s-items.result.now c.in-Compound.statements c.compound.s-index c.as_slice-s-items.ensures c.compound-test.false c.compound.invariant))

pub returns-after-repeated : goal.returns-after-repeated
returns-after-repeated t c =
    rw (c.in-Repeat.is, plain_statement-Repeat)
    (walks_on (walks_silent c.args.out.now (plain.Repeat _ _ _) refl refl refl)
    (rest_end c.as_slice-s-items-in-Repeat.result.now c.in-Repeat.statements c.repeated.s-index c.as_slice-s-items-in-Repeat.ensures c.repeated-test.false c.repeated.invariant))

pub returns-after-arms : goal.returns-after-arms
returns-after-arms t c =
    rw (c.in-Case.is, plain_statement-Case)
    (walks_on (walks_silent c.args.out.now (plain.Case _ _ _) refl refl refl)
    (arms_end c.as_slice-arm-items.result.now c.in-Case.arms c.arms.arm-index c.as_slice-arm-items.ensures c.arms-test.false c.arms.invariant))

pub returns-in_ok-push-in-Labelled : goal.returns-in_ok-push-in-Labelled
returns-in_ok-push-in-Labelled t c =
    rw (c.in-Labelled.is, plain_statement-Labelled, ← c.get.ensures)
    (on_ok_weaker c.walk.result (λ w. walks_labelled c.args.out.now c.in-Labelled.label _ c.push.new.self c.in_ok-push-in-Labelled.ensures.ok w) c.walk.ensures)

pub returns-in_ok-push-in-For : goal.returns-in_ok-push-in-For
returns-in_ok-push-in-For t c =
    rw (c.in-For.is, plain_statement-For, ← c.get-in-For-2.ensures)
    (on_ok_weaker c.walk-in-For.result
    (λ w. walks_for c.args.out.now c.in-For.field-0 c.in-For.head _ c.push-in-For.new.self
    (c.in_ok-push-in-For.ensures.ok ∙ ap (λ n. c.args.out.now.controls ++ n ∷ []) (c.in_ok-copy-in-For.ensures ∙ ap (λ h. h.variable.name) c.get-in-For.ensures)) w)
    c.walk-in-For.ensures)

pub returns-in-Assign : goal.returns-in-Assign
returns-in-Assign t c =
    rw (c.in-Assign.is, plain_statement-Assign)
    (on_ok_weaker c.assigned.result (λ e. walks_assign c.args.out.now c.in-Assign.variable c.in-Assign.field-1 _ c.assigned.new.out e) c.assigned.ensures)

pub returns-in-None : goal.returns-in-None
returns-in-None t c =
    rw (c.in-If.is, c.in-None.is, plain_statement-If, ← c.get-in-If.ensures)
    (walks_on (walks_silent c.args.out.now (plain.If _ _ _) refl refl refl) c.in_ok-walk-in-If.ensures)

pub returns-in-Some : goal.returns-in-Some
returns-in-Some t c =
    rw (c.in-If.is, c.in-Some.is, plain_statement-IfElse, ← c.get-in-If.ensures, ← c.get-in-Some.ensures)
    (on_ok_weaker c.walk-in-Some.result
    (λ w. walks_on (walks_silent c.args.out.now (plain.IfElse _ _ _ _) refl refl refl) (walks_on c.in_ok-walk-in-If.ensures w)) c.walk-in-Some.ensures)

pub returns-in-While : goal.returns-in-While
returns-in-While t c =
    rw (c.in-While.is, plain_statement-While, ← c.get-in-While.ensures)
    (on_ok_weaker c.walk-in-While.result (λ w. walks_on (walks_silent c.args.out.now (plain.While _ _ _) refl refl refl) w) c.walk-in-While.ensures)

pub returns-in-With : goal.returns-in-With
returns-in-With t c =
    rw (c.in-With.is, plain_statement-With, ← c.get-in-With.ensures)
    (on_ok_weaker c.walk-in-With.result (λ w. walks_on (walks_silent c.args.out.now (plain.With _ _ _) refl refl refl) w) c.walk-in-With.ensures)

pub returns-in-Empty : goal.returns-in-Empty
returns-in-Empty t c = rw (c.in-Empty.is, plain_statement-Empty) (walks_silent c.args.out.now (plain.Empty _) refl refl refl)

pub returns-in-Call : goal.returns-in-Call
returns-in-Call t c = rw (c.in-Call.is, plain_statement-Call) (walks_silent c.args.out.now (plain.Call _ _) refl refl refl)

pub returns-in-Goto : goal.returns-in-Goto
returns-in-Goto t c = rw (c.in-Goto.is, plain_statement-Goto) (walks_silent c.args.out.now (plain.Goto _ _) refl refl refl)
