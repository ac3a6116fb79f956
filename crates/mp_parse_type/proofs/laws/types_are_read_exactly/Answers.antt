use Rattle.mp_cursor.proofs.RuleLaws.{exactly}
use Rattle.mp_parse_type.proofs.TypeLaws.{law_denoter, law_section}
use Rattle.mp_parse_type.proofs.HeadingLaws.{law_heading}
use Rattle.mp_parse_type.proofs.laws.types_are_read_exactly.Goals as goal

pub returns-clause-denoter : goal.returns-clause-denoter
returns-clause-denoter c = λ room. exactly (law_denoter room)

pub returns-clause-section : goal.returns-clause-section
returns-clause-section c = λ room. exactly (law_section room)

pub returns-clause-heading : goal.returns-clause-heading
returns-clause-heading c = λ room. exactly (law_heading room)
