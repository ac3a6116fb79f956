use Rattle.std.proofs.Common.{[], inl, arith}
use Rattle.mp_edge.proofs.ToldLemmas.{grows_none, consumes_none}
use Rattle.mp_cli.proofs.ScriptLemmas.{front_all, none_written, nothing_read}
use Rattle.mp_cli.proofs.scripts.serial.Goals as goal

pub returns-in-Err-clause-met : goal.returns-in-Err-clause-met
returns-in-Err-clause-met g c = record {
  taken = [];
  written = [];
  takes = grows_none _;
  leaves = consumes_none _;
  writes = grows_none _;
  limit = omega arith;
  holds = (front_all [] [] none_written, inl none_written);
  last_read = nothing_read;
}
