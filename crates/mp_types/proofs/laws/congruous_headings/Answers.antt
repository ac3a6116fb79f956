use Rattle.mp_types.proofs.CongruityLemmas.{congruous-sym, unnamed-congruous, congruous-unnamed}
use Rattle.mp_types.proofs.laws.congruous_headings.Goals as goal

pub returns-clause-symmetric : goal.returns-clause-symmetric
returns-clause-symmetric c = congruous-sym

pub returns-clause-enough : goal.returns-clause-enough
returns-clause-enough c = unnamed-congruous

pub returns-clause-needed : goal.returns-clause-needed
returns-clause-needed c = congruous-unnamed
