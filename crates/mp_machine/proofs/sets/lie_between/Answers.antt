use Rattle.std.proofs.Common.{◌≡◌, ◌∙◌, ap, arith, pos, rules, sym, true}
use Rattle.mp_machine.specs.Numbers.{lies_in, members_lie_in}
use Rattle.mp_machine.proofs.MemberLemmas.{all_lie, not_all_lie}
use Rattle.mp_machine.proofs.sets.lie_between.Goals as goal

pub returns-then-not-lies_in : goal.returns-then-not-lies_in
returns-then-not-lies_in c =
    sym (ap (members_lie_in c.args.low c.args.high) (sym c.copy-set.ensures.same) ∙
    not_all_lie c.args.low c.args.high c.copy-set.result c.members.member (sym c.has.ensures ∙ c.if-has.true) (search rules))

pub returns : goal.returns
returns c =
    sym (ap (members_lie_in c.args.low c.args.high) (sym c.copy-set.ensures.same) ∙
    all_lie c.args.low c.args.high c.copy-set.result c.copy-set.ensures.set
    (λ n l is. let h : lies_in c.args.low c.args.high (pos n) ≡ true =
    search (rules, c.members.invariant n (let t = c.members-test.false in omega (arith, l, t)) is) in h))
