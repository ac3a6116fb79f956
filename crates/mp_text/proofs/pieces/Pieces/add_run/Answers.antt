use Rattle.std.proofs.Common.{◌≡◌, ◌+◌, ◌-◌, ◌++◌, take, drop, ap, sym, ◌∙◌, append_assoc, take-add, arith}
use Rattle.std.specs.Arc.{arc_value}
use Rattle.mp_text.proofs.pieces.Pieces.add_run.Goals as goal

pub cuts-preserved : goal.cuts-preserved
cuts-preserved c =
    let run = c.args.run.now in
    let at = c.cuts.at in
    let so = c.cuts.invariant in
    let size : at + 2048 - at ≡ 2048 = omega arith in
    let piece : (arc_value c.in_ok-new.field-0).items ≡ take 2048 (drop at run) = ap (λ v. v.items) c.in_ok-new.ensures.ok ∙ c.in_ok-from_slice.ensures.items
    ∙ ap (λ k. take k (drop at run)) size in
    record {
      within = omega (arith, c.cuts-test.true, so.within);
      bytes = c.in_ok-add.ensures.ok ∙ ap (λ t. t ++ (arc_value c.in_ok-new.field-0).items) so.bytes
          ∙ append_assoc c.args.self.now (take at run) (arc_value c.in_ok-new.field-0).items
          ∙ ap (λ t. c.args.self.now ++ (take at run ++ t)) piece ∙ ap (λ t. c.args.self.now ++ t) (sym (take-add at 2048 run));
    }
