use Rattle.std.proofs.Common.{◌∙◌, ◌∷◌, ◌++◌, [], ap, arith}
use Rattle.mp_files.specs.RunFiles.{RunFiles, after_reset}
use Rattle.mp_files.specs.TextFiles as text
use Rattle.mp_machine.proofs.EnterLemmas.{not_lt}
use Rattle.mp_machine.proofs.WriteLemmas.{made_anew}
use Rattle.mp_machine.proofs.given_files.GivenFiles.make_to_read.Goals as goal

pub returns : goal.returns
returns c =
    let h = c.self.invariant in
    let number = c.in_ok-number.ensures.number in
    c.in-Ok.ensures.ok ∙ ap (after_reset c.in_ok-number.number) c.in_ok-number.ensures.made
    ∙ made_anew text.reset c.in_ok-number.number c.self.inside.files number
    (not_lt c.in_ok-number.number 2 (let l = h.0 in let m = h.1 in omega (arith, l, m, number)))
    ∙ ap (λ (run : RunFiles). record { files = run.files ++ text.reset text.closed_file ∷ []; written = run.written }) c.self.view_is
