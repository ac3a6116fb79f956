use Rattle.std.proofs.Common.{All, ◌≤◌, length}
use Rattle.mp_diag.specs.Codes.{IsListed}
use Rattle.mp_diag.proofs.tests.errors_of.Given as goal

abbrev pub invariant-loop-row : goal.invariant-loop-row
invariant-loop-row l = record {
  within : All (λ error. error.start ≤ length l.text) l.errors.items;
  listed : All (λ error. IsListed error.code) l.errors.items;
}
