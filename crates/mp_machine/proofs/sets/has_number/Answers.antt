use Rattle.std.proofs.Common.{◌∙◌, ap, rules, sym}
use Rattle.mp_machine.specs.Numbers.{stands_in}
use Rattle.mp_machine.proofs.MemberLemmas.{stands_nowhere}
use Rattle.mp_machine.proofs.sets.has_number.Goals as goal

pub returns-then-not-may_be_member : goal.returns-then-not-may_be_member
returns-then-not-may_be_member c =
    sym (ap (stands_in c.args.i) (sym c.copy-set.ensures.same) ∙
    stands_nowhere c.args.i c.copy-set.result c.copy-set.ensures.set (search rules))
