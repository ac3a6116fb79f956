use Rattle.std.proofs.Common.{◌≡◌, ◌≤◌, ◌+◌, ◌^◌, min}
use Rattle.std.specs.Io.KnownBytes.{Keeps}
use Rattle.mp_edge.proofs.std_writer.CountedWriter.write.Given as goal

abbrev pub invariant-tries : goal.invariant-tries
invariant-tries g l = record {
  kept : Keeps (g.W.Write.contents l.fn.self.writer) (g.W.Write.contents l.self.writer);
  later : l.fn.self.faults ≤ l.self.faults;
  tries : l.self.faults + 1 ≤ l.fn.self.faults + l.counter;
  hard : l.self.hard_faults ≡ l.fn.self.hard_faults;
  counted : min (l.fn.self.faults + l.counter) (2 ^ 64) ≤ l.self.faults + 1;
}
