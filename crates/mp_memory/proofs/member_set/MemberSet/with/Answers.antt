use Rattle.std.proofs.Common.{ap, ◌∙◌}
use Rattle.mp_memory.specs.Sets.{with_member}
use Rattle.mp_memory.proofs.SetLemmas.{with_seen}
use Rattle.mp_memory.proofs.member_set.MemberSet.with.Goals as goal

pub returns : goal.returns
returns c = c.with.ensures ∙ with_seen c.self.inside.bits c.args.member ∙ ap (λ set. with_member set c.args.member) c.self.view_is
