use Rattle.std.proofs.Common.{sym}
use Rattle.std.specs.Bool.{one_answer}
use Rattle.std.proofs.lemmas.Bool.{false_from_ne_true, both_ways}
use Rattle.mp_memory.proofs.Lanes.{first_is_in, second_is_in, third_is_in, fourth_is_in, all_are_in}
use Rattle.mp_memory.proofs.bits.Bits.within.Goals as goal

pub returns-then-not-covers : goal.returns-then-not-covers
returns-then-not-covers c =
    sym (false_from_ne_true _ (λ e. both_ways c.covers.result c.if-not-covers.true (c.covers.ensures.1 (first_is_in c.args.self.now c.args.other.now e))))

pub returns-then-not-covers-2 : goal.returns-then-not-covers-2
returns-then-not-covers-2 c =
    sym (false_from_ne_true _ (λ e. both_ways c.covers-2.result c.if-not-covers-2.true (c.covers-2.ensures.1 (second_is_in c.args.self.now c.args.other.now e))))

pub returns-then-not-covers-3 : goal.returns-then-not-covers-3
returns-then-not-covers-3 c =
    sym (false_from_ne_true _ (λ e. both_ways c.covers-3.result c.if-not-covers-3.true (c.covers-3.ensures.1 (third_is_in c.args.self.now c.args.other.now e))))

pub returns : goal.returns
returns c =
    one_answer _ _ c.covers-4.ensures (
      λ e. fourth_is_in c.args.self.now c.args.other.now e,
      λ h. all_are_in c.args.self.now c.args.other.now (c.covers.ensures.0 c.if-not-covers.false) (c.covers-2.ensures.0 c.if-not-covers-2.false)
          (c.covers-3.ensures.0 c.if-not-covers-3.false) h,
    )
