use Rattle.std.proofs.Common.{◌∙◌, sym, arith}
use Rattle.std.proofs.lemmas.Bool.{ne_eqb}
use Rattle.mp_session.proofs.TextLemmas.{long_from_is, long_at_end, long_at_more, long_at_stop, long_behind}
use Rattle.mp_session.proofs.texts.long_line_by_counting.Goals as goal
use Rattle.mp_session.proofs.texts.long_line_by_counting.Goals.{then-byte-eq10, else-byte-eq10+then-before-lt-LINE_LIMIT}

pub loop-byte-preserved : goal.loop-byte-preserved
loop-byte-preserved c =
    let text = c.args.text.now in
    let i = c.loop-byte.byte-index in
    let line = c.loop-byte.line in
    let before = c.loop-byte.before in
    elim c.if-byte-eq10.branch [
      | then-byte-eq10 w ↦ rw (w.before-is, w.line-is) (record {
        small = omega arith;
        few = omega (arith, c.loop-byte.invariant.few);
        same = long_at_end line before text i c.loop-byte-test.true w.if-byte-eq10.true ∙ c.loop-byte.invariant.same;
      })
      | else-byte-eq10+then-before-lt-LINE_LIMIT w ↦ rw (w.before-is, w.line-is) (record {
        small = omega (arith, w.if-before-lt-LINE_LIMIT.true);
        few = omega (arith, c.loop-byte.invariant.few);
        same = long_at_more line before text i c.loop-byte-test.true (ne_eqb _ _ w.if-byte-eq10.false) w.if-before-lt-LINE_LIMIT.true ∙ c.loop-byte.invariant.same;
      })
    ]

pub returns-else-before-lt-LINE_LIMIT : goal.returns-else-before-lt-LINE_LIMIT
returns-else-before-lt-LINE_LIMIT c =
    let text = c.args.text.now in
    sym (long_at_stop c.loop-byte.line c.loop-byte.before text c.loop-byte.byte-index c.loop-byte-test.true
    (ne_eqb _ _ c.if-byte-eq10.false) c.if-before-lt-LINE_LIMIT.false) ∙ c.loop-byte.invariant.same ∙ long_from_is text

pub returns : goal.returns
returns c =
    let text = c.args.text.now in
    sym (long_behind c.loop-byte.line c.loop-byte.before text c.loop-byte.byte-index c.loop-byte-test.false) ∙ c.loop-byte.invariant.same ∙ long_from_is text
