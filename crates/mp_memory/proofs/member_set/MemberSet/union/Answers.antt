use Rattle.std.proofs.Common.{ap₂, ◌∙◌}
use Rattle.mp_memory.specs.Sets.{union}
use Rattle.mp_memory.proofs.SetLemmas.{union_seen}
use Rattle.mp_memory.proofs.member_set.MemberSet.union.Goals as goal

pub returns : goal.returns
returns c = c.union.ensures ∙ union_seen c.self.inside.bits c.other.inside.bits ∙ ap₂ union c.self.view_is c.other.view_is
