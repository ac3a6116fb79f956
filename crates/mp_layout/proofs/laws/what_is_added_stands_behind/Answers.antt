use Rattle.mp_layout.proofs.SumLemmas.{offsets-append}
use Rattle.mp_layout.proofs.laws.what_is_added_stands_behind.Goals as goal

pub returns : goal.returns
returns c = offsets-append
