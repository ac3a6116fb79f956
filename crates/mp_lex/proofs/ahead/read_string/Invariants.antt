use Rattle.std.proofs.Common.{◌≡◌, ◌+◌, ◌-◌, ◌≤◌, drop, length, max}
use Rattle.mp_lex.specs.Lengths.{string_len}
use Rattle.mp_lex.specs.Windows.{IsRead}
use Rattle.mp_lex.proofs.ahead.read_string.Given as goal

abbrev pub invariant-elements : goal.invariant-elements
invariant-elements g l = record {
  from : l.window.from ≡ l.initial.window.from;
  read : IsRead (g.T.Reader.bytes l.text) l.window.from l.window.bytes.items;
  end : l.end ≤ length l.window.bytes.items;
  steps : l.steps + length l.initial.window.bytes.items ≤ l.initial.steps + length l.window.bytes.items;
  grown : length l.initial.window.bytes.items ≤ length l.window.bytes.items;
  reach : length l.window.bytes.items ≤ max (length l.initial.window.bytes.items) (l.end + 1);
  same : l.end + string_len (drop (l.initial.window.from + l.end) (g.T.Reader.bytes l.text)) ≡ l.at + string_len (drop (l.initial.window.from + l.at) (g.T.Reader.bytes l.text));
}

abbrev pub decreases-elements : goal.decreases-elements
decreases-elements g l = length (g.T.Reader.bytes l.text) - l.end
