use Rattle.mp_text.proofs.LineLemmas.{line_filtered}
use Rattle.mp_unit_tests.proofs.text.line.Goals as goal

pub from_vec-requires : goal.from_vec-requires
from_vec-requires c = rw c.in_ok-items.ensures (line_filtered c.args.bytes.now)
