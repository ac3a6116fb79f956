use Rattle.std.proofs.Common.{◌≡◌, ◌≤◌, ◌-◌, [], length, take}
use Rattle.mp_edge.specs.Told.{Grows}
use Rattle.mp_edge.proofs.writing.write_all.Given as goal

abbrev pub invariant-pieces : goal.invariant-pieces
invariant-pieces g l = record {
  within : l.at ≤ length l.bytes;
  written : Grows (g.K.Sink.written l.fn.sink) (g.K.Sink.written l.sink) (take l.at l.bytes);
  none : l.bytes ≡ [] → l.sink ≡ l.fn.sink;
  later : g.K.Sink.faults l.fn.sink ≤ g.K.Sink.faults l.sink;
  failures : g.K.Sink.failures l.sink ≡ g.K.Sink.failures l.fn.sink;
  quiet : g.K.Sink.quiet l.fn.sink → g.K.Sink.quiet l.sink × (g.K.Sink.faults l.sink ≡ g.K.Sink.faults l.fn.sink);
}

abbrev pub decreases-pieces : goal.decreases-pieces
decreases-pieces g l = length l.bytes - l.at
