use Rattle.std.proofs.Common.{◌+◌, ◌-◌, ◌/◌, ap, arith}
use Rattle.mp_lex.proofs.BoundarySteps.{before_middle, from_middle}
use Rattle.mp_lex.proofs.boundaries.first_token.Goals as goal

pub halves-preserved-then-tokens-middle : goal.halves-preserved-then-tokens-middle
halves-preserved-then-tokens-middle c =
    let middle = c.halves.low + (c.halves.high - c.halves.low) / 2 in
    let inside = c.halves.invariant in
    record {
      between = omega arith;
      within = inside.within;
      before = λ k d a b. before_middle (λ token. token.start) c.args.tokens.now c.args.place middle c.index-tokens-middle.result c.requires
          (omega (arith, inside.within)) (omega (arith, ap (λ token. token.start) c.index-tokens-middle.is, c.if-tokens-middle.true)) k d b;
      after = inside.after;
    }

pub halves-preserved : goal.halves-preserved
halves-preserved c =
    let middle = c.halves.low + (c.halves.high - c.halves.low) / 2 in
    let inside = c.halves.invariant in
    record {
      between = omega arith;
      within = omega (arith, inside.within);
      before = inside.before;
      after = λ k d a b. from_middle (λ token. token.start) c.args.tokens.now c.args.place middle c.index-tokens-middle.result c.requires
          (omega (arith, ap (λ token. token.start) c.index-tokens-middle.is, c.if-tokens-middle.false)) k d a b;
    }
