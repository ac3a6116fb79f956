use Rattle.std.proofs.Common.{arith, sym, ◌∙◌}
use Rattle.mp_code.specs.Drafts.{draft_code, is_wrong_here}
use Rattle.mp_code.proofs.CheckLemmas.{none_wrong, one_further}
use Rattle.mp_code.proofs.check.Draft.first_wrong_index.Goals as goal

pub indexes-preserved : goal.indexes-preserved
indexes-preserved c =
    one_further (is_wrong_here (draft_code c.args.self.now)) c.indexes.at c.indexes.invariant (sym c.is_wrong_here.ensures ∙ c.if-is_wrong_here.false)

pub returns : goal.returns
returns c =
    none_wrong (draft_code c.args.self.now) (λ j less. c.indexes.invariant j (omega (arith, less, c.indexes-test.false, c.indexes.auto.at-end, c.len-at-end.ensures)))
