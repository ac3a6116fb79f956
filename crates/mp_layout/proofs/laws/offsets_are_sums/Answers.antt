use Rattle.mp_layout.proofs.SumLemmas.{length-offsets, offset_is, ascend}
use Rattle.mp_layout.proofs.laws.offsets_are_sums.Goals as goal

pub returns-clause-length : goal.returns-clause-length
returns-clause-length c = length-offsets

pub returns-clause-sums : goal.returns-clause-sums
returns-clause-sums c = offset_is

pub returns-clause-ascend : goal.returns-clause-ascend
returns-clause-ascend c = ascend
