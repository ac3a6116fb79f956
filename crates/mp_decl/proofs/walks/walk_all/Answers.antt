use Rattle.std.proofs.Common.{refl}
use Rattle.mp_decl.proofs.WalkLemmas.{rest_end, rest_next, walked_all}
use Rattle.mp_decl.proofs.walks.walk_all.Goals as goal

pub statements-preserved : goal.statements-preserved
statements-preserved c =
    rest_next c.args.statements.now c.statements.s-index c.s-item.result c.statements-test.true c.s-item.is c.statements.invariant c.in_ok-walk.ensures

pub returns : goal.returns
returns c =
    walked_all (record { controls = c.new.result; assigned = c.new-2.result; prefixes = c.new-3.result }) c.statements.out _ c.new.ensures c.new-2.ensures c.new-3.ensures
    (rest_end c.args.statements.now _ c.statements.s-index refl c.statements-test.false c.statements.invariant)
