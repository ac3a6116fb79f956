use Rattle.std.proofs.Common.{ap₂, ◌∙◌}
use Rattle.mp_memory.specs.Sets.{difference}
use Rattle.mp_memory.proofs.SetLemmas.{less_seen}
use Rattle.mp_memory.proofs.member_set.MemberSet.less.Goals as goal

pub returns : goal.returns
returns c = c.less.ensures ∙ less_seen c.self.inside.bits c.other.inside.bits ∙ ap₂ difference c.self.view_is c.other.view_is
