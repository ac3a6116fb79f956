use Rattle.mp_cursor.proofs.RuleLaws.{exactly}
use Rattle.mp_parse_stmt.proofs.StatementLaws.{law_statement, law_sequence}
use Rattle.mp_parse_stmt.proofs.laws.statements_are_read_exactly.Goals as goal

pub returns-clause-statement : goal.returns-clause-statement
returns-clause-statement c = λ room. exactly (law_statement room)

pub returns-clause-sequence : goal.returns-clause-sequence
returns-clause-sequence c = λ room. exactly (law_sequence room)
