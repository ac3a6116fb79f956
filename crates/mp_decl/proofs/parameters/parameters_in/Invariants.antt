use Rattle.std.proofs.Common.{◌≡◌, ◌++◌, length, map}
use Rattle.mp_tables.specs.Headings.{parameters_in}
use Rattle.mp_decl.specs.Judged.{parameter_of}
use Rattle.mp_decl.proofs.parameters.parameters_in.Given as goal

abbrev pub invariant-formals : goal.invariant-formals
invariant-formals l = map parameter_of l.found ++ parameters_in l.rest ≡ parameters_in l.formals

abbrev pub decreases-formals : goal.decreases-formals
decreases-formals l = length l.rest
