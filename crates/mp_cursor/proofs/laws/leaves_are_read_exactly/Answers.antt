use Rattle.std.proofs.Common.{refl}
use Rattle.mp_cursor.specs.LeafTokens.{but_sign}
use Rattle.mp_cursor.proofs.RuleLaws.{exactly}
use Rattle.mp_cursor.proofs.LeafLaws.{law_identifier, law_number, law_string}
use Rattle.mp_cursor.proofs.ConstantLaws.{law_optional_sign, law_constant, law_constants, law_identifiers}
use Rattle.mp_cursor.proofs.laws.leaves_are_read_exactly.Goals as goal

pub returns-clause-name : goal.returns-clause-name
returns-clause-name c = exactly {P = Unit {0}} law_identifier

pub returns-clause-number : goal.returns-clause-number
returns-clause-number c = exactly {P = Unit {0}} law_number

pub returns-clause-text : goal.returns-clause-text
returns-clause-text c = exactly {P = Unit {0}} law_string

pub returns-clause-sign : goal.returns-clause-sign
returns-clause-sign c = exactly (law_optional_sign but_sign refl)

pub returns-clause-constant : goal.returns-clause-constant
returns-clause-constant c = exactly law_constant

pub returns-clause-constants : goal.returns-clause-constants
returns-clause-constants c = exactly law_constants

pub returns-clause-names : goal.returns-clause-names
returns-clause-names c = exactly law_identifiers
