use Rattle.mp_memory.proofs.SetLemmas.{sets_are_by_members}
use Rattle.mp_memory.proofs.laws.sets_are_by_members.Goals as goal

pub returns : goal.returns
returns c = sets_are_by_members
