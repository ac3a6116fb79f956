use Rattle.std.proofs.Common.{ap₂, ◌∙◌}
use Rattle.mp_memory.specs.Sets.{intersection}
use Rattle.mp_memory.proofs.SetLemmas.{meet_seen}
use Rattle.mp_memory.proofs.member_set.MemberSet.meet.Goals as goal

pub returns : goal.returns
returns c = c.meet.ensures ∙ meet_seen c.self.inside.bits c.other.inside.bits ∙ ap₂ intersection c.self.view_is c.other.view_is
