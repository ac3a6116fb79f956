use Rattle.std.proofs.Common.{Some, None, sym, ap, subst, ◌∙◌}
use Rattle.mp_code.specs.Drafts.{draft_code}
use Rattle.mp_code.specs.Shape.{lesser_of}
use Rattle.mp_code.proofs.CheckLemmas.{IsFound, joined_is_first}
use Rattle.mp_code.proofs.check.Draft.first_bad.Goals as goal

pub returns-in-Some : goal.returns-in-Some
returns-in-Some c =
    let code = draft_code c.args.self.now in
    subst (IsFound code) (ap (lesser_of c.in-Some.index) (sym c.least_wrong_label-label.ensures) ∙ c.lesser.ensures)
    (joined_is_first code (Some c.in-Some.index) c.in-Some.ensures)

pub returns-in-None : goal.returns-in-None
returns-in-None c =
    let code = draft_code c.args.self.now in
    subst (IsFound code) (sym c.least_wrong_label-label.ensures) (joined_is_first code None c.in-None.ensures)
