use Rattle.std.proofs.Common.{length, ◌-◌, ◌≡◌, ◌+◌, ◌≤◌, drop}
use Rattle.std.specs.List.{prefix_len}
use Rattle.mp_script.specs.Words.{is_word_byte}
use Rattle.mp_script.proofs.words.word_end.Given as goal

abbrev pub invariant-letters : goal.invariant-letters
invariant-letters l = record {
  within : l.end ≤ length l.line;
  same : l.end + prefix_len is_word_byte (drop l.end l.line) ≡ l.at + prefix_len is_word_byte (drop l.at l.line);
}

abbrev pub decreases-letters : goal.decreases-letters
decreases-letters l = length l.line - l.end
