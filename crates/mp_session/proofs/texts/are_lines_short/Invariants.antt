use Rattle.std.proofs.Common.{◌≤◌, ◌-◌, length}
use Rattle.mp_session.proofs.TextLemmas.{HasNoLong}
use Rattle.mp_session.proofs.texts.are_lines_short.Given as goal

abbrev pub invariant-loop-at : goal.invariant-loop-at
invariant-loop-at l = record {
  within : l.at ≤ length l.text;
  short : HasNoLong l.text l.at → HasNoLong l.text 0;
}

abbrev pub decreases-loop-at : goal.decreases-loop-at
decreases-loop-at l = length l.text - l.at
