use Rattle.std.proofs.Common.{◌≡◌, ◌≤◌, ◌+◌, drop}
use Rattle.mp_base.specs.declared.limits.TheConstants.{LINE_LIMIT}
use Rattle.mp_session.proofs.TextLemmas.{long_from}
use Rattle.mp_session.proofs.texts.long_line_by_counting.Given as goal

abbrev pub invariant-loop-byte : goal.invariant-loop-byte
invariant-loop-byte l = record {
  small : l.before ≤ LINE_LIMIT;
  few : l.line ≤ l.byte-index + 1;
  same : long_from l.line l.before (drop l.byte-index l.text) ≡ long_from 1 0 l.text;
}
