use Rattle.std.proofs.Common.{length, ◌-◌, ◌≤◌, take}
use Rattle.mp_base.specs.Text.{IsLine}
use Rattle.mp_script.proofs.lines.Lines.feed.Given as goal

abbrev pub invariant-bytes : goal.invariant-bytes
invariant-bytes l = record {
  within : l.at ≤ length l.piece;
  line : IsLine (take l.at l.piece);
}

abbrev pub decreases-bytes : goal.decreases-bytes
decreases-bytes l = length l.piece - l.at
