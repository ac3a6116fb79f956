use Rattle.std.proofs.Common.{◌≡◌, ◌≤◌, drop, length}
use Rattle.mp_session.specs.Departure.{departure}
use Rattle.mp_session.proofs.departure.departure_from.Given as goal

abbrev pub invariant-loop-i : goal.invariant-loop-i
invariant-loop-i l = record {
  within : l.i ≤ length l.parts;
  same : departure (drop l.i l.parts) (drop l.i l.tokens) l.end ≡ departure l.parts l.tokens l.end;
}
