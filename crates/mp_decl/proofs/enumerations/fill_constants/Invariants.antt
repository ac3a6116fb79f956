use Rattle.std.proofs.Common.{◌≤◌, ◌-◌, drop, length}
use Rattle.mp_tables.specs.declared.types.TypeId.TheVariants as type
use Rattle.mp_tables.specs.Reports.{Rest}
use Rattle.mp_tables.specs.Denoters.{fill_constants}
use Rattle.mp_decl.specs.Judged.{known_of}
use Rattle.mp_decl.proofs.enumerations.fill_constants.Given as goal

abbrev pub invariant-constants : goal.invariant-constants
invariant-constants g l =
    let state = g.S.Scope.state in
    let id = type.Own l.path l.at in
    record {
      within : l.number ≤ length l.constants;
      left : Rest (fill_constants l.path id l.number (drop l.number l.constants)) (state l.scope) (known_of l.known)
          (fill_constants l.path id 0 l.constants) (state l.initial.scope) (known_of l.initial.known);
    }

abbrev pub decreases-constants : goal.decreases-constants
decreases-constants g l = length l.constants - l.number
