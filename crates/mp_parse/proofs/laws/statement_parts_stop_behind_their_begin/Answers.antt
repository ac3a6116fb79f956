use Rattle.mp_parse.proofs.StoppedLemmas.{stops_behind}
use Rattle.mp_parse.proofs.laws.statement_parts_stop_behind_their_begin.Goals as goal

pub returns : goal.returns
returns c = stops_behind
