use Rattle.std.proofs.Common.{◌+◌, ◌-◌, ◌/◌, arith}
use Rattle.mp_lex.proofs.BoundarySteps.{before_middle, from_middle}
use Rattle.mp_lex.proofs.boundaries.first_error.Goals as goal

pub halves-preserved-then-errors-middle : goal.halves-preserved-then-errors-middle
halves-preserved-then-errors-middle c =
    let middle = c.halves.low + (c.halves.high - c.halves.low) / 2 in
    let inside = c.halves.invariant in
    record {
      between = omega arith;
      within = inside.within;
      before = λ k d a b. before_middle (λ error. error.start) c.args.errors.now c.args.place middle (record { start = 0; len = 0; code = 0 }) c.requires
          (omega (arith, inside.within)) c.if-errors-middle.true k d b;
      after = inside.after;
    }

pub halves-preserved : goal.halves-preserved
halves-preserved c =
    let middle = c.halves.low + (c.halves.high - c.halves.low) / 2 in
    let inside = c.halves.invariant in
    record {
      between = omega arith;
      within = omega (arith, inside.within);
      before = inside.before;
      after = λ k d a b. from_middle (λ error. error.start) c.args.errors.now c.args.place middle
          (record { start = 0; len = 0; code = 0 }) c.requires c.if-errors-middle.false k d a b;
    }
