use Rattle.std.proofs.Common.{◌∙◌, sym, arith}
use Rattle.mp_session.proofs.DepartureLemmas.{departure_at_end}
use Rattle.mp_session.proofs.departure.departure_from.Goals as goal

pub returns-then-tokens-parts : goal.returns-then-tokens-parts
returns-then-tokens-parts c = sym (departure_at_end c.args.parts.now c.args.tokens.now c.loop-i.i c.args.end c.loop-i-test.false (omega arith)) ∙ c.loop-i.invariant.same
