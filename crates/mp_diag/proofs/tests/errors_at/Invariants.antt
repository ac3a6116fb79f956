use Rattle.std.proofs.Common.{All}
use Rattle.mp_diag.specs.Codes.{IsListed}
use Rattle.mp_diag.proofs.tests.errors_at.Given as goal

abbrev pub invariant-loop-row : goal.invariant-loop-row
invariant-loop-row l = All (λ error. IsListed error.code) l.errors.items
