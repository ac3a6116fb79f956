use Rattle.std.proofs.Common.{ap, arith, length, ◌∙◌}
use Rattle.mp_edge.proofs.ToldLemmas.{grows_part, part_within, partly_failed}
use Rattle.mp_edge.proofs.writing.write_all.Goals as goal

-- one write more
pub pieces-preserved : goal.pieces-preserved
pieces-preserved g c = record {
  within = part_within c.args.bytes.now c.pieces.at c.in-Took.count (omega arith) c.in-Took.ensures.part.0;
  written = grows_part _ _ _ c.args.bytes.now c.pieces.at c.in-Took.count c.pieces.invariant.written c.in-Took.ensures.written;
  none = λ e. absurd (omega (arith, ap length e));
  later = omega (arith, c.in-Took.ensures.later);
  failures = c.in-Took.ensures.failures ∙ c.pieces.invariant.failures;
  quiet = λ q. let before = c.pieces.invariant.quiet q in let now = c.in-Took.ensures.quiet before.0 in (now.0, now.1 ∙ before.1);
}

pub returns-in-Failed-clause-err : goal.returns-in-Failed-clause-err
returns-in-Failed-clause-err g c = partly_failed _ _ _ c.args.bytes.now c.pieces.at c.pieces.invariant.written c.in-Failed.ensures.written
