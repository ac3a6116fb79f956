use Rattle.std.proofs.Common.{arith}
use Rattle.mp_ast.proofs.CountingBlocks.{derived_declarations}
use Rattle.mp_ast.proofs.laws.declarations_of_programs.Goals as goal

pub returns-clause-number : goal.returns-clause-number
returns-clause-number c = λ limits kinds tree j h. (derived_declarations limits kinds tree j h).0

pub returns-clause-few : goal.returns-clause-few
returns-clause-few c = λ limits kinds tree h.
    let d = derived_declarations limits kinds tree h.0 h.1 in
    omega (arith, d.0, d.1)
