use Rattle.std.proofs.Common.{◌≡◌, drop, map, max}
use Rattle.std.specs.List.{filter}
use Rattle.mp_lex.specs.Relexing.{error_end, greatest, is_before}
use Rattle.mp_lex.proofs.boundaries.errors_kept_to.Given as goal

abbrev pub invariant-ends : goal.invariant-ends
invariant-ends l = max l.kept (greatest (filter (is_before l.start) (map error_end (drop l.error-index l.errors))))
    ≡ greatest (filter (is_before l.start) (map error_end l.errors))
