-- The errors keep their codes, which stand in the table.
use Rattle.std.proofs.Common.{◌≡◌, ◌∙◌, All}
use Rattle.mp_base.specs.Text.{lines_of}
use Rattle.mp_diag.specs.Codes.{IsListed}
use Rattle.mp_diag.specs.Listing.{shown_errors}
use Rattle.mp_diag.proofs.ListedLemmas.{shown_listed}
use Rattle.mp_diag.proofs.tests.listed_of.Goals as goal

pub listing-requires : goal.listing-requires
listing-requires c =
    let errors = c.as_slice.result.now in
    let listed : All (λ error. IsListed error.code) errors = rw c.as_slice.ensures.value c.in_ok-errors.ensures.listed in
    let shown : c.as_slice-2.result.now ≡ shown_errors (lines_of c.args.source.now) errors = c.as_slice-2.ensures.value ∙ c.in_ok-shown.ensures in
    rw shown (shown_listed (lines_of c.args.source.now) errors listed)
