-- The rows of the code are those of the definition, by computation.
use Rattle.mp_diag.specs.Codes.{table}
use Rattle.mp_diag.proofs.messages.text_of.Goals as goal

pub returns : goal.returns
unfolding table
returns c = c.find_text.ensures
