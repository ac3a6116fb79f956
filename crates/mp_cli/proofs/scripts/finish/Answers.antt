use Rattle.std.proofs.Common.{◌++◌}
use Rattle.mp_edge.proofs.ToldLemmas.{grows_more}
use Rattle.mp_session.specs.Lines.{step}
use Rattle.mp_cli.specs.Talk.{standing}
use Rattle.mp_cli.proofs.ScriptLemmas.{part_line, part_closing}
use Rattle.mp_cli.proofs.TalkLemmas.{of_error, on_error}
use Rattle.mp_cli.proofs.scripts.finish.Goals as goal

pub returns-in_err-take_line-clause-partly : goal.returns-in_err-take_line-clause-partly
returns-in_err-take_line-clause-partly g c =
    let p = c.in_err-take_line.ensures.partly in
    of_error c.from_residual.result _ (
      p.0,
      p.1,
      part_line (standing c.args.session.now.state c.args.waiting.now) c.args.lines c.in-Some.line p.0 c.in-Some.ensures.0 c.in-Some.ensures.1 p.2,
    )

pub returns-in-On-clause-partly : goal.returns-in-On-clause-partly
returns-in-On-clause-partly g c =
    let n = rw c.in-On.is at c.in_ok-take_line.ensures.now in
    let stand = standing c.args.session.now.state c.args.waiting.now in
    on_error c.close-in-On.result _ _ c.close-in-On.ensures.partly (λ p. (
      (step stand c.in-Some.line).bytes ++ p.0,
      grows_more _ _ _ _ p.0 c.in_ok-take_line.ensures.written p.1,
      part_closing stand _ c.args.lines c.in-Some.line p.0 c.in-Some.ensures.0 c.in-Some.ensures.1 n p.2,
    ))
