use Rattle.std.proofs.Common.{◌≡◌, ◌++◌, drop}
use Rattle.std.specs.List.{flat_map}
use Rattle.mp_diag.specs.Listing.{error_line}
use Rattle.mp_diag.proofs.lines.listing.Given as goal

abbrev pub invariant-loop-error : goal.invariant-loop-error
invariant-loop-error l = l.out.items ++ flat_map error_line (drop l.error-index l.errors) ≡ flat_map error_line l.errors
