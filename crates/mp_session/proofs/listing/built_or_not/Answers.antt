use Rattle.std.proofs.Common.{length, sym, ◌∙◌}
use Rattle.mp_session.specs.Departure.{empty_program}
use Rattle.mp_session.proofs.DepartureLemmas.{departure_within}
use Rattle.mp_session.proofs.listing.built_or_not.Goals as goal

pub position-requires-clause-within : goal.position-requires-clause-within
position-requires-clause-within c = departure_within empty_program c.args.tokens.now (length c.args.text.now) c.in-Some.byte c.requires.within
    (sym c.departure.ensures ∙ c.in-Some.is)
