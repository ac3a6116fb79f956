use Rattle.std.proofs.Common.{◌≡◌, ◌≤◌, take}
use Rattle.mp_script.specs.Words.{content_len}
use Rattle.mp_script.proofs.words.content_len.Given as goal

abbrev pub invariant-bytes : goal.invariant-bytes
invariant-bytes l = record {
  within : l.end ≤ l.at;
  same : l.end ≡ content_len (take l.at l.line);
}
