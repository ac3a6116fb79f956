use Rattle.std.proofs.Common.{subst, sym}
use Rattle.mp_base.specs.Text.{lines_of}
use Rattle.mp_ast.specs.Programs.{kinds_of}
use Rattle.mp_diag.specs.Codes.{IsListed}
use Rattle.mp_session.proofs.ListingLemmas.{of_error}
use Rattle.mp_session.proofs.SyntaxLemmas.{told_listed}
use Rattle.mp_session.proofs.listing.parsed_listing.Goals as goal

pub syntax_listing-requires-clause-listed : goal.syntax_listing-requires-clause-listed
syntax_listing-requires-clause-listed c =
    subst IsListed (sym c.in-Err-Syntax.code-is)
    (told_listed (kinds_of c.args.lexed.now.tokens) c.in-Err-Syntax.token c.in-Err-Syntax.code c.in-Err-Syntax.field-0 c.in-Err-Syntax.field-0-is
    c.in-Err-Syntax.ensures.error)

pub returns-in-Err-Syntax : goal.returns-in-Err-Syntax
returns-in-Err-Syntax c =
    of_error (lines_of c.args.text.now) c.args.lexed.now.tokens c.get-tokens.result.now c.in-Err-Syntax.token c.in-Err-Syntax.code _ _
    c.in-Err-Syntax.field-0 c.syntax_listing.result c.get-tokens.ensures c.in-Err-Syntax.token-is c.in-Err-Syntax.code-is
    c.in-Err-Syntax.field-0-is c.in-Err-Syntax.ensures.found c.syntax_listing.ensures
