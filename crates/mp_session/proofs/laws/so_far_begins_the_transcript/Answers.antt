use Rattle.mp_session.proofs.Told.{so_far_begins}
use Rattle.mp_session.proofs.laws.so_far_begins_the_transcript.Goals as goal

pub returns : goal.returns
returns c = so_far_begins
