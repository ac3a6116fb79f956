use Rattle.std.proofs.Common.{arith, ◌≡◌, ◌++◌, [], Some, ap, sym, ◌∙◌, length}
use Rattle.std.specs.Vec.Iter.{into_iter_items}
use Rattle.mp_edge.proofs.ToldLemmas.{grows_more}
use Rattle.mp_session.specs.Lines.{step, Ran, after}
use Rattle.mp_session.proofs.Runs.{line_on, line_quits, line_part, after_none}
use Rattle.mp_cli.specs.Talk.{standing}
use Rattle.mp_cli.proofs.TalkLemmas.{none_left, of_error}
use Rattle.mp_cli.proofs.talk.take_lines.Goals as goal

pub loop-line-preserved : goal.loop-line-preserved
loop-line-preserved g c =
    let h = c.loop-line.invariant.told in
    let s = c.in-Some.ensures.steps in
    let n = rw c.in_default.is at c.in_ok-take_line.ensures.now in
    record {
      «open» = c.in_ok-take_line.ensures.open;
      count = omega (arith, ap length s.0, s.1, c.loop-line.invariant.count);
      room = omega (arith, ap length s.0, c.in_ok-take_line.ensures.count, c.loop-line.invariant.room);
      later = omega (arith, c.in_ok-take_line.ensures.sink.later, c.loop-line.invariant.later);
      failures = c.in_ok-take_line.ensures.sink.failures ∙ c.loop-line.invariant.failures;
      quiet = λ q. let before = c.loop-line.invariant.quiet q in let now = c.in_ok-take_line.ensures.sink.quiet before.0 in (now.0, now.1 ∙ before.1);
      told = (
        h.0 ++ (step (standing c.loop-line.session.state c.loop-line.waiting) c.in-Some.line).bytes,
        grows_more _ _ _ h.0 _ h.1 c.in_ok-take_line.ensures.written,
        line_on h.0 (standing c.loop-line.session.state c.loop-line.waiting)
            (standing c.take_line.new.session.state c.take_line.new.waiting) c.in-Some.line (into_iter_items c.next.new.self) h.2 s.0 n,
      );
    }

pub returns-in-Quit-clause-now : goal.returns-in-Quit-clause-now
returns-in-Quit-clause-now g c =
    let h = c.loop-line.invariant.told in
    let s = c.in-Some.ensures.steps in
    let n = rw c.in-Quit.is at c.in_ok-take_line.ensures.now in
    ap (λ (r : Ran). r.now) (line_quits h.0 (standing c.loop-line.session.state c.loop-line.waiting) c.in-Some.line (into_iter_items c.next.new.self) h.2 s.0 n)

pub returns-in-Quit-clause-written : goal.returns-in-Quit-clause-written
returns-in-Quit-clause-written g c =
    let h = c.loop-line.invariant.told in
    let s = c.in-Some.ensures.steps in
    let stand = standing c.loop-line.session.state c.loop-line.waiting in
    let replied = (step stand c.in-Some.line).bytes in
    let n = rw c.in-Quit.is at c.in_ok-take_line.ensures.now in
    rw (line_quits h.0 stand c.in-Some.line (into_iter_items c.next.new.self) h.2 s.0 n) (grows_more _ _ _ h.0 replied h.1 c.in_ok-take_line.ensures.written)

pub returns-in_err-take_line-clause-partly : goal.returns-in_err-take_line-clause-partly
returns-in_err-take_line-clause-partly g c =
    let h = c.loop-line.invariant.told in
    let s = c.in-Some.ensures.steps in
    let p = c.in_err-take_line.ensures.partly in
    of_error c.from_residual.result _ (
      h.0 ++ p.0,
      grows_more _ _ _ h.0 p.0 h.1 p.1,
      line_part h.0 p.0 (standing c.loop-line.session.state c.loop-line.waiting) c.in-Some.line (into_iter_items c.next.new.self) h.2 s.0 p.2,
    )

pub returns-clause-now : goal.returns-clause-now
returns-clause-now g c =
    let h = c.loop-line.invariant.told in
    let e : into_iter_items c.loop-line.line-iterator ≡ [] = none_left _ (omega (arith, c.in-None.ensures.steps.0, c.loop-line.invariant.count)) in
    ap (λ (r : Ran). r.now) (sym h.2 ∙ ap (after (record { bytes = h.0; now = Some (standing c.loop-line.session.state c.loop-line.waiting) })) e
    ∙ after_none (record { bytes = h.0; now = Some (standing c.loop-line.session.state c.loop-line.waiting) }))

pub returns-clause-written : goal.returns-clause-written
returns-clause-written g c =
    let h = c.loop-line.invariant.told in
    let e : into_iter_items c.loop-line.line-iterator ≡ [] = none_left _ (omega (arith, c.in-None.ensures.steps.0, c.loop-line.invariant.count)) in
    rw (sym h.2 ∙ ap (after (record { bytes = h.0; now = Some (standing c.loop-line.session.state c.loop-line.waiting) })) e
    ∙ after_none (record { bytes = h.0; now = Some (standing c.loop-line.session.state c.loop-line.waiting) })) h.1
