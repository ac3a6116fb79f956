use Rattle.std.proofs.Common.{◌≡◌, ◌≤◌, ◌+◌, ◌^◌, min}
use Rattle.std.specs.Io.KnownBytes.{Keeps}
use Rattle.mp_edge.proofs.std_reader.CountedReader.read.Given as goal

abbrev pub invariant-tries : goal.invariant-tries
invariant-tries g l = record {
  kept : Keeps (g.R.Read.remaining l.fn.self.reader) (g.R.Read.remaining l.self.reader);
  later : l.fn.self.errors ≤ l.self.errors;
  tries : l.self.errors + 1 ≤ l.fn.self.errors + l.counter;
  hard : l.self.hard_errors ≡ l.fn.self.hard_errors;
  counted : min (l.fn.self.errors + l.counter) (2 ^ 64) ≤ l.self.errors + 1;
}
