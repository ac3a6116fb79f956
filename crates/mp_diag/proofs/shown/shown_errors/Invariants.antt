use Rattle.std.proofs.Common.{◌≡◌, ◌++◌, drop}
use Rattle.mp_base.specs.Text.{lines_of}
use Rattle.mp_diag.specs.Listing.{shown_errors}
use Rattle.mp_diag.proofs.shown.shown_errors.Given as goal

abbrev pub invariant-loop-error : goal.invariant-loop-error
invariant-loop-error l = record {
  text : l.positions ≡ l.text;
  shown : l.shown.items ++ shown_errors (lines_of l.text) (drop l.error-index l.errors) ≡ shown_errors (lines_of l.text) l.errors;
}
