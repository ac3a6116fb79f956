use Rattle.mp_cursor.proofs.RuleLaws.{exactly}
use Rattle.mp_parse.proofs.PartLaws.{begun_part}
use Rattle.mp_parse.proofs.laws.statement_parts_are_read_exactly.Goals as goal

pub returns : goal.returns
returns c = λ openers. exactly (begun_part openers)
