use Rattle.mp_memory.specs.Members.{holds}
use Rattle.mp_memory.proofs.SetLemmas.{that_is_set}
use Rattle.mp_memory.proofs.member_set.MemberSet.copy.Goals as goal

pub returns-clause-set : goal.returns-clause-set
returns-clause-set c = that_is_set (holds c.self.inside.bits)
