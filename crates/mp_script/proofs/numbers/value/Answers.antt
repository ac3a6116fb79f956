use Rattle.std.proofs.Common.{arith}
use Rattle.mp_script.proofs.NumberLemmas.{digit_at, power_small}
use Rattle.mp_script.proofs.numbers.value.Goals as goal

pub overflow_mul-value : goal.overflow_mul-value
overflow_mul-value c = omega (arith, c.digits.invariant.small, power_small c.digits.digit-index (omega arith))

pub overflow_add-value : goal.overflow_add-value
overflow_add-value c =
    let d = digit_at c.args.digits.now c.digits.digit-index (omega arith) c.requires.digits in
    omega (arith, c.digits.invariant.small, power_small c.digits.digit-index (omega arith), c.from.ensures, d.0, d.1)
