use Rattle.std.proofs.Common.{◌≡◌, ◌≤◌, ◌-◌, length, vec_len}
use Rattle.std.specs.Io.KnownBytes.{Consumes}
use Rattle.mp_base.specs.declared.limits.TheConstants.{SCRIPT_LIMIT}
use Rattle.mp_edge.specs.Told.{Grows}
use Rattle.mp_cli.specs.declared.reading.TheConstants.{BUFFER_SIZE}
use Rattle.mp_cli.proofs.reading.read_all.Given as goal

abbrev pub invariant-reads : goal.invariant-reads
invariant-reads g l = record {
  within : vec_len l.text ≤ SCRIPT_LIMIT;
  buffer : length l.buffer ≡ BUFFER_SIZE;
  taken : Grows (g.S.Source.taken l.fn.source) (g.S.Source.taken l.source) l.text.items;
  left : Consumes (g.S.Source.left l.fn.source) (g.S.Source.left l.source) l.text.items;
  later : g.S.Source.faults l.fn.source ≤ g.S.Source.faults l.source;
  failures : g.S.Source.failures l.source ≡ g.S.Source.failures l.fn.source;
  quiet : g.S.Source.quiet l.fn.source → g.S.Source.quiet l.source × (g.S.Source.faults l.source ≡ g.S.Source.faults l.fn.source);
}

abbrev pub decreases-reads : goal.decreases-reads
decreases-reads g l = SCRIPT_LIMIT - vec_len l.text
