use Rattle.std.proofs.Common.{ap₂, ◌∙◌}
use Rattle.mp_memory.specs.Sets.{is_included}
use Rattle.mp_memory.proofs.SetLemmas.{within_seen}
use Rattle.mp_memory.proofs.member_set.MemberSet.within.Goals as goal

pub returns : goal.returns
returns c = c.within.ensures ∙ within_seen c.self.inside.bits c.other.inside.bits ∙ ap₂ is_included c.self.view_is c.other.view_is
