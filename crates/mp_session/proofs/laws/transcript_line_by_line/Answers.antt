use Rattle.mp_session.proofs.Told.{answers_alike}
use Rattle.mp_session.proofs.laws.transcript_line_by_line.Goals as goal

pub returns : goal.returns
returns c = answers_alike
