use Rattle.mp_ast.proofs.FirstTokenLemmas.{constant_at, access_at, expression_at, denoter_at, statement_at}
use Rattle.mp_ast.proofs.laws.parts_begin_at_their_first_tokens.Goals as goal

pub returns-clause-constants : goal.returns-clause-constants
returns-clause-constants c = constant_at

pub returns-clause-accesses : goal.returns-clause-accesses
returns-clause-accesses c = access_at

pub returns-clause-expressions : goal.returns-clause-expressions
returns-clause-expressions c = expression_at

pub returns-clause-types : goal.returns-clause-types
returns-clause-types c = denoter_at

pub returns-clause-statements : goal.returns-clause-statements
returns-clause-statements c = statement_at
