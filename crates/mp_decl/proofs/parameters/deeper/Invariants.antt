use Rattle.std.proofs.Common.{◌≡◌, ◌++◌, length, map}
use Rattle.std.specs.Prelude.{nat_lt, take_while}
use Rattle.mp_tables.specs.Headings.{shallower}
use Rattle.mp_decl.proofs.parameters.deeper.Given as goal

abbrev pub invariant-formals : goal.invariant-formals
invariant-formals l =
    l.found ++ map (shallower l.depth) (take_while (λ g. nat_lt l.depth g.depth) l.rest)
    ≡ map (shallower l.depth) (take_while (λ g. nat_lt l.depth g.depth) l.following)

abbrev pub decreases-formals : goal.decreases-formals
decreases-formals l = length l.rest
