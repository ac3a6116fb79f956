use Rattle.std.proofs.Common.{◌≡◌, ◌≤◌, ◌+◌, ℕ, List, Some, length}
use Rattle.std.specs.Vec.Iter.{into_iter_items, into_iter_len}
use Rattle.mp_edge.specs.Told.{Grows}
use Rattle.mp_session.specs.Lines.{after, from}
use Rattle.mp_cli.specs.Talk.{IsOpen, standing}
use Rattle.mp_cli.proofs.talk.take_lines.Given as goal

-- what the lines so far led to, with what the others will lead to, is what all lead to
abbrev pub invariant-loop-line : goal.invariant-loop-line
invariant-loop-line g l = record {
  «open» : IsOpen l.waiting;
  count : length (into_iter_items l.line-iterator) ≡ into_iter_len l.line-iterator;
  room : l.session.obeyed + length (into_iter_items l.line-iterator) ≤ l.fn.session.obeyed + length l.fn.lines;
  later : g.K.Sink.faults l.fn.sink ≤ g.K.Sink.faults l.sink;
  failures : g.K.Sink.failures l.sink ≡ g.K.Sink.failures l.fn.sink;
  quiet : g.K.Sink.quiet l.fn.sink → g.K.Sink.quiet l.sink × (g.K.Sink.faults l.sink ≡ g.K.Sink.faults l.fn.sink);
  told : (bytes : List ℕ) × Grows (g.K.Sink.written l.fn.sink) (g.K.Sink.written l.sink) bytes
      × (after (record { bytes = bytes; now = Some (standing l.session.state l.waiting) }) (into_iter_items l.line-iterator)
      ≡ after (from (standing l.fn.session.state l.fn.waiting)) l.fn.lines);
}
