use Rattle.std.proofs.Common.{sym, arith}
use Rattle.mp_files.proofs.ReadingLemmas.{value_more, value_same}
use Rattle.mp_files.proofs.reading.value_between.Goals.{in-Some, in_default}
use Rattle.mp_files.proofs.reading.value_between.Goals as goal

pub digits-preserved : goal.digits-preserved
digits-preserved c = elim c.match-get.branch [
  | in-Some w ↦
      let on = value_more c.args.items.now c.args.from c.digits.at w.in-Some.item c.digits.invariant.start (sym w.in-Some.ensures.item) in
      record { start = omega arith; value = omega (arith, on, w.value-is, w.min-value.ensures, w.digit.ensures.value, c.digits.invariant.value) }
  | in_default w ↦
      let same = value_same c.args.items.now c.args.from c.digits.at c.digits.invariant.start (sym w.in_default.ensures.item) in
      record { start = omega arith; value = omega (arith, same, w.value-is, c.digits.invariant.value) }
]
