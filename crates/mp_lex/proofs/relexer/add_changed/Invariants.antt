use Rattle.std.proofs.Common.{◌≡◌, ◌+◌, ◌-◌, ◌≤◌, length}
use Rattle.mp_lex.specs.Relexing.{same_from}
use Rattle.mp_lex.specs.Windows.{IsLexedTo, IsRead}
use Rattle.mp_lex.proofs.relexer.add_changed.Given as goal

abbrev pub invariant-items : goal.invariant-items
invariant-items g l = record {
  window : l.window.from ≡ l.from;
  read : IsRead (g.T.Reader.bytes l.text) l.window.from l.window.bytes.items;
  known : l.at ≤ length l.window.bytes.items;
  reach : length l.window.bytes.items ≤ l.at + 2;
  steps : l.steps ≤ l.initial.steps + length l.window.bytes.items;
  lexed : IsLexedTo (g.T.Reader.bytes l.text) (l.from + l.at) l.tokens l.errors;
  before : l.from + l.at ≤ same_from l.change l.old.tokens l.old.errors (g.T.Reader.bytes l.text);
}

abbrev pub decreases-items : goal.decreases-items
decreases-items g l = length (g.T.Reader.bytes l.text) - l.at
