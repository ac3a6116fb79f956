use Rattle.std.proofs.Common.{length, ◌-◌, ◌≡◌, ◌+◌, ◌≤◌, drop}
use Rattle.std.specs.List.{prefix_len}
use Rattle.mp_script.specs.Words.{is_separator}
use Rattle.mp_script.proofs.words.separators_end.Given as goal

abbrev pub invariant-separators : goal.invariant-separators
invariant-separators l = record {
  within : l.end ≤ length l.line;
  same : l.end + prefix_len is_separator (drop l.end l.line) ≡ l.at + prefix_len is_separator (drop l.at l.line);
}

abbrev pub decreases-separators : goal.decreases-separators
decreases-separators l = length l.line - l.end
