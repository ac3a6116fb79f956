use Rattle.std.proofs.Common.{◌≡◌, ◌+◌, ◌-◌, ◌≤◌, drop, length, max}
use Rattle.std.specs.List.{prefix_len}
use Rattle.std.specs.Char.{is_ascii_alphanumeric}
use Rattle.mp_lex.specs.Windows.{IsRead}
use Rattle.mp_lex.proofs.ahead.read_word.Given as goal

abbrev pub invariant-letters : goal.invariant-letters
invariant-letters g l = record {
  from : l.window.from ≡ l.initial.window.from;
  read : IsRead (g.T.Reader.bytes l.text) l.window.from l.window.bytes.items;
  end : l.end ≤ length l.window.bytes.items;
  steps : l.steps + length l.initial.window.bytes.items ≤ l.initial.steps + length l.window.bytes.items;
  grown : length l.initial.window.bytes.items ≤ length l.window.bytes.items;
  reach : length l.window.bytes.items ≤ max (length l.initial.window.bytes.items) (l.end + 1);
  same : l.end + prefix_len is_ascii_alphanumeric (drop (l.initial.window.from + l.end) (g.T.Reader.bytes l.text)) ≡ l.at + prefix_len is_ascii_alphanumeric
      (drop (l.initial.window.from + l.at) (g.T.Reader.bytes l.text));
}

abbrev pub decreases-letters : goal.decreases-letters
decreases-letters g l = length (g.T.Reader.bytes l.text) - l.end
