use Rattle.std.proofs.Common.{length, All, ap, subst, sym, ◌∙◌, arith}
use Rattle.mp_base.specs.Text.{lines_of}
use Rattle.mp_diag.specs.Codes.{IsListed}
use Rattle.mp_diag.specs.Listing.{listing, shown_errors}
use Rattle.mp_session.proofs.ListingLemmas.{erroneous, parsed, lexical_shown_listed, some_of, none_of}
use Rattle.mp_session.proofs.SyntaxLemmas.{few_tokens}
use Rattle.mp_session.proofs.listing.text_listing.Goals as goal

pub listing-requires : goal.listing-requires
listing-requires c =
    let text = lines_of c.args.text.now in
    let is = c.as_slice.ensures.value ∙ c.in_ok-shown.ensures ∙ ap (shown_errors text) c.get-errors.ensures in
    subst (λ errors. All (λ error. IsListed error.code) errors) (sym is) (lexical_shown_listed text c.in_ok-lexed.lexed.errors c.in_ok-lexed.ensures.errors_in_order.codes)

pub returns-then-not-is_empty : goal.returns-then-not-is_empty
returns-then-not-is_empty c =
    let text = lines_of c.args.text.now in
    let is = c.as_slice.ensures.value ∙ c.in_ok-shown.ensures in
    rw (erroneous c.args.text.now text c.get-errors.result.now c.requires.ended (c.get-errors.ensures ∙ c.in_ok-lexed.ensures.errors)
    (some_of (length c.get-errors.result.now) (sym c.is_empty.ensures ∙ c.if-not-is_empty.true)) ∙ ap listing (sym is)) c.listing.ensures

pub parsed_listing-requires-clause-tokens : goal.parsed_listing-requires-clause-tokens
parsed_listing-requires-clause-tokens c =
    let few = few_tokens c.args.text.now c.in_ok-lexed.lexed.tokens c.in_ok-lexed.ensures.tokens_in_order in
    let h = c.requires.few in omega arith

pub returns : goal.returns
returns c =
    let text = lines_of c.args.text.now in
    let tokens = c.in_ok-lexed.lexed.tokens in
    rw (parsed c.args.text.now text tokens c.get-errors.result.now c.requires.ended c.in_ok-lexed.ensures.tokens
    (c.get-errors.ensures ∙ c.in_ok-lexed.ensures.errors)
    (none_of (length c.get-errors.result.now) (sym c.is_empty.ensures ∙ c.if-not-is_empty.false))) c.parsed_listing.ensures
