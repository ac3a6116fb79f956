use Rattle.std.proofs.Common.{◌+◌, ◌-◌, ◌/◌, arith}
use Rattle.mp_text.proofs.PieceLemmas.{to_middle_lines, past_middle_lines}
use Rattle.mp_text.proofs.pieces.first_counting.Goals as goal

pub halves-preserved : goal.halves-preserved
halves-preserved c =
    let middle = c.halves.low + (c.halves.high - c.halves.low) / 2 in
    let inside = c.halves.invariant in
    record {
      between = omega arith;
      within = inside.within;
      before = λ k d a b. to_middle_lines c.args.pieces.now c.args.count middle c.index-pieces-middle.result c.requires
          (omega (arith, inside.within)) c.if-count-pieces.false k d b;
      after = inside.after;
    }

pub halves-preserved-then-count-pieces : goal.halves-preserved-then-count-pieces
halves-preserved-then-count-pieces c =
    let middle = c.halves.low + (c.halves.high - c.halves.low) / 2 in
    let inside = c.halves.invariant in
    record {
      between = omega arith;
      within = omega (arith, inside.within);
      before = inside.before;
      after = λ k d a b. past_middle_lines c.args.pieces.now c.args.count middle c.index-pieces-middle.result c.requires c.if-count-pieces.true
          (omega (arith, inside.within)) k d a b;
    }
