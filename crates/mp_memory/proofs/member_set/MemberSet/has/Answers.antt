use Rattle.std.proofs.Common.{ap, ◌∙◌}
use Rattle.mp_memory.specs.Sets.{is_member}
use Rattle.mp_memory.proofs.SetLemmas.{has_seen}
use Rattle.mp_memory.proofs.member_set.MemberSet.has.Goals as goal

pub returns : goal.returns
returns c = c.has.ensures ∙ has_seen c.self.inside.bits c.args.member ∙ ap (is_member c.args.member) c.self.view_is
