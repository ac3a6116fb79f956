use Rattle.std.proofs.Common.{ap, ap₂, ◌∙◌, ◌*ℤ◌, ◌^◌, arith}
use mir.Val.{to_z, of_z}
use Rattle.std.specs.Int.{w128}
use Rattle.std.specs.Int.Signed.{nat_abs-le}
use Rattle.std.proofs.Math.Facts.{to_z-of_z, sfits_widen}
use Rattle.std.proofs.lemmas.Int.{fits_signed_mul}
use Rattle.mp_memory.specs.Integers.{as_integer}
use Rattle.mp_memory.proofs.integers.product.Goals as goal

pub returns : goal.returns
returns c =
    c.integer.ensures
    ∙ ap as_integer (
    ap₂ (λ a b. to_z w128 (of_z w128 (a *ℤ b)))
    (ap (λ a. to_z w128 (of_z w128 a)) (to_z-of_z c.ranges.i) ∙ to_z-of_z {w = w128} (sfits_widen (tt {0}) c.ranges.i))
    (ap (λ a. to_z w128 (of_z w128 a)) (to_z-of_z c.ranges.j) ∙ to_z-of_z {w = w128} (sfits_widen (tt {0}) c.ranges.j))
    ∙ to_z-of_z {z = c.args.i *ℤ c.args.j}
    (fits_signed_mul w128 c.args.i c.args.j (2 ^ 63) (2 ^ 63) (nat_abs-le c.args.i c.ranges.i.sfits) (nat_abs-le c.args.j c.ranges.j.sfits) (omega arith)))
