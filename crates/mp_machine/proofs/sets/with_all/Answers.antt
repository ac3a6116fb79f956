use Rattle.std.proofs.Common.{◌∙◌, ◌-◌, ◌+◌, ap, arith}
use Rattle.std.specs.List.{range_with_len}
use Rattle.mp_memory.specs.Sets.{union}
use Rattle.mp_machine.proofs.MemberLemmas.{none_more, with_next}
use Rattle.mp_machine.proofs.sets.with_all.Goals as goal

pub returns-then-first-last : goal.returns-then-first-last
returns-then-first-last c =
    none_more c.args.set.now c.copy.result c.args.first (c.args.last + 1 - c.args.first) c.copy.ensures.same c.copy.ensures.set
    (let o = c.if-first-last.true in omega (arith, o))

pub members-init : goal.members-init
members-init c =
    none_more c.args.set.now c.copy-all.result c.args.first (c.from-member.result - c.args.first) c.copy-all.ensures.same
    c.copy-all.ensures.set
    (let e = c.from-member.ensures in omega (arith, e))

pub members-preserved : goal.members-preserved
members-preserved c =
    with_next c.args.set.now c.members.all c.with-all.result c.args.first c.members.member c.members.invariant
    (let a = c.members.auto.member in let e = c.from-member.ensures in omega (arith, a, e)) c.with-all.ensures

pub returns : goal.returns
returns c =
    c.members.invariant ∙ ap (λ n. union c.args.set.now (range_with_len c.args.first n))
    (let t = c.members-test.false in let e = c.from-member-end.ensures in let a = c.members.auto.member-end in let f =
    c.from-member.ensures in let o = c.if-first-last.false in omega (arith, t, e, a, f, o))
