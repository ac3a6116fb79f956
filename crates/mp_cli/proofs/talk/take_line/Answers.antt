use Rattle.std.proofs.Common.{arith, ◌≡◌, ◌≤◌, ◌<◌, None, Some, ap, sym, ◌∙◌, length}
use Rattle.mp_edge.proofs.ToldLemmas.{grows_none}
use Rattle.mp_session.specs.Lines.{Ran, next_of}
use Rattle.mp_session.proofs.Runs.{step_bad, step_waits, step_obeys}
use Rattle.mp_cli.proofs.TalkLemmas.{obeyed_goes, of_error}
use Rattle.mp_cli.specs.Talk.{standing}
use Rattle.mp_cli.proofs.talk.take_line.Goals as goal

pub returns-in_default-clause-now : goal.returns-in_default-clause-now
returns-in_default-clause-now g c =
    let e : next_of c.args.waiting.now c.args.line ≡ None = rw c.replace-before.ensures.value at (sym c.in_ok-next.ensures.next ∙ c.in_default.is) in
    rw (step_bad (standing c.args.session.now.state c.args.waiting.now) c.args.line e, c.replace-before.ensures.after)

pub returns-in_default-clause-written : goal.returns-in_default-clause-written
returns-in_default-clause-written g c =
    let e : next_of c.args.waiting.now c.args.line ≡ None = rw c.replace-before.ensures.value at (sym c.in_ok-next.ensures.next ∙ c.in_default.is) in
    rw (step_bad (standing c.args.session.now.state c.args.waiting.now) c.args.line e) c.in_ok-write_all.ensures.ok

pub returns-in_err-write_all-clause-partly : goal.returns-in_err-write_all-clause-partly
returns-in_err-write_all-clause-partly g c =
    let e : next_of c.args.waiting.now c.args.line ≡ None = rw c.replace-before.ensures.value at (sym c.in_ok-next.ensures.next ∙ c.in_default.is) in
    rw (step_bad (standing c.args.session.now.state c.args.waiting.now) c.args.line e) (of_error c.from_residual-in_err-write_all.result _ c.in_err-write_all.ensures.err)

pub returns-then-get-next-clause-now : goal.returns-then-get-next-clause-now
returns-then-get-next-clause-now g c =
    let e : next_of c.args.waiting.now c.args.line ≡ Some c.in-Some.next = rw c.replace-before.ensures.value at (sym c.in_ok-next.ensures.next ∙ c.in-Some.is) in
    let lt : length c.in-Some.next.lines < c.in-Some.next.wants = omega (arith, ap length c.get.ensures) in
    rw (step_waits (standing c.args.session.now.state c.args.waiting.now) c.args.line c.in-Some.next e lt)

pub returns-then-get-next-clause-written : goal.returns-then-get-next-clause-written
returns-then-get-next-clause-written g c =
    let e : next_of c.args.waiting.now c.args.line ≡ Some c.in-Some.next = rw c.replace-before.ensures.value at (sym c.in_ok-next.ensures.next ∙ c.in-Some.is) in
    let lt : length c.in-Some.next.lines < c.in-Some.next.wants = omega (arith, ap length c.get.ensures) in
    rw (step_waits (standing c.args.session.now.state c.args.waiting.now) c.args.line c.in-Some.next e lt) (grows_none _)

pub returns-clause-written : goal.returns-clause-written
returns-clause-written g c =
    let e : next_of c.args.waiting.now c.args.line ≡ Some c.in-Some.next = rw c.replace-before.ensures.value at (sym c.in_ok-next.ensures.next ∙ c.in-Some.is) in
    let le : c.in-Some.next.wants ≤ length c.in-Some.next.lines = omega (arith, ap length c.get.ensures) in
    rw (step_obeys (standing c.args.session.now.state c.args.waiting.now) c.args.line c.in-Some.next e le) c.obey.ensures.written

pub returns-clause-partly : goal.returns-clause-partly
returns-clause-partly g c =
    let e : next_of c.args.waiting.now c.args.line ≡ Some c.in-Some.next = rw c.replace-before.ensures.value at (sym c.in_ok-next.ensures.next ∙ c.in-Some.is) in
    let le : c.in-Some.next.wants ≤ length c.in-Some.next.lines = omega (arith, ap length c.get.ensures) in
    rw (step_obeys (standing c.args.session.now.state c.args.waiting.now) c.args.line c.in-Some.next e le) c.obey.ensures.partly

pub returns-clause-now : goal.returns-clause-now
returns-clause-now g c =
    let e : next_of c.args.waiting.now c.args.line ≡ Some c.in-Some.next = rw c.replace-before.ensures.value at (sym c.in_ok-next.ensures.next ∙ c.in-Some.is) in
    let le : c.in-Some.next.wants ≤ length c.in-Some.next.lines = omega (arith, ap length c.get.ensures) in
    let leads = ap (λ (r : Ran). r.now) (step_obeys (standing c.args.session.now.state c.args.waiting.now) c.args.line c.in-Some.next e le) in
    obeyed_goes c.obey.result c.in-Some.next.verb _ _ _ _ leads c.replace-before.ensures.after c.obey.ensures.turn c.obey.ensures.state
