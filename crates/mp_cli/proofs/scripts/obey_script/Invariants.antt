use Rattle.std.proofs.Common.{◌≡◌, ◌≤◌, ◌+◌, ◌-◌, ℕ, List, length}
use Rattle.std.specs.Io.KnownBytes.{Consumes}
use Rattle.mp_base.specs.declared.limits.TheConstants.{SCRIPT_LIMIT}
use Rattle.mp_edge.specs.Told.{Grows}
use Rattle.mp_cli.specs.Talk.{IsOpen, standing}
use Rattle.mp_cli.specs.declared.reading.TheConstants.{BUFFER_SIZE}
use Rattle.mp_cli.proofs.ScriptLemmas.{Reached}
use Rattle.mp_cli.proofs.scripts.obey_script.Given as goal

-- the bytes taken so far have led to where the script stands
abbrev pub invariant-reads : goal.invariant-reads
invariant-reads g l = record {
  within : l.taken ≤ SCRIPT_LIMIT;
  buffer : length l.buffer ≡ BUFFER_SIZE;
  waits : IsOpen l.waiting;
  room : l.session.obeyed + length l.lines ≤ l.taken;
  source_later : g.S.Source.faults l.fn.source ≤ g.S.Source.faults l.source;
  sink_later : g.K.Sink.faults l.fn.sink ≤ g.K.Sink.faults l.sink;
  source_failures : g.S.Source.failures l.source ≡ g.S.Source.failures l.fn.source;
  sink_failures : g.K.Sink.failures l.sink ≡ g.K.Sink.failures l.fn.sink;
  source_quiet : g.S.Source.quiet l.fn.source → g.S.Source.quiet l.source × (g.S.Source.faults l.source ≡ g.S.Source.faults l.fn.source);
  sink_quiet : g.K.Sink.quiet l.fn.sink → g.K.Sink.quiet l.sink × (g.K.Sink.faults l.sink ≡ g.K.Sink.faults l.fn.sink);
  run : (t : List ℕ) × (w : List ℕ) × Grows (g.S.Source.taken l.fn.source) (g.S.Source.taken l.source) t
      × Consumes (g.S.Source.left l.fn.source) (g.S.Source.left l.source) t
      × Grows (g.K.Sink.written l.fn.sink) (g.K.Sink.written l.sink) w
      × (length t ≡ l.taken)
      × Reached t w l.lines (standing l.session.state l.waiting);
}

abbrev pub decreases-reads : goal.decreases-reads
decreases-reads g l = SCRIPT_LIMIT - l.taken
