use Rattle.std.proofs.Common.{◌≡◌, ◌++◌, drop, map}
use Rattle.mp_decl.proofs.enumerations.names_of.Given as goal

abbrev pub invariant-constants : goal.invariant-constants
invariant-constants l = l.names ++ map (λ x. x.name) (drop l.x-index l.constants) ≡ map (λ x. x.name) l.constants
