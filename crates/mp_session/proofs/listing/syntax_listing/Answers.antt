use Rattle.std.proofs.Common.{◌≤◌, length, subst, sym}
use Rattle.mp_session.proofs.SyntaxLemmas.{start_within}
use Rattle.mp_session.proofs.listing.syntax_listing.Goals as goal

pub position-at-requires-clause-within : goal.position-at-requires-clause-within
position-at-requires-clause-within c = subst (λ byte. byte ≤ length c.args.text.now) (sym c.start_at-byte.ensures)
    (start_within c.args.tokens.now _ (length c.args.text.now) c.requires.within)
