use Rattle.std.proofs.Common.{◌≡◌, ◌+◌, ◌-◌, ◌≤◌, drop, length, max}
use Rattle.mp_lex.specs.Windows.{IsRead}
use Rattle.mp_lex.specs.Split.{item_len}
use Rattle.mp_lex.proofs.window.read_item.Given as goal

abbrev pub invariant-reads : goal.invariant-reads
invariant-reads g l = record {
  from : l.window.from ≡ l.fn.window.from;
  read : IsRead (g.T.Reader.bytes l.text) l.window.from l.window.bytes.items;
  at : l.at ≤ length l.window.bytes.items;
  steps : l.steps + length l.fn.window.bytes.items ≤ l.fn.steps + length l.window.bytes.items;
  reach : length l.window.bytes.items ≤ max (length l.fn.window.bytes.items) (l.at + item_len (drop (l.fn.window.from + l.at) (g.T.Reader.bytes l.text)) + 2);
}

abbrev pub decreases-reads : goal.decreases-reads
decreases-reads g l = length (g.T.Reader.bytes l.text) - length l.window.bytes.items
