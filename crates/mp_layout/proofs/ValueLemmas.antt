-- How many values there are from the least to the greatest.
use Rattle.std.proofs.Common.{◌≡◌, ℕ, ◌+◌, ℤ, pos, ◌+ℤ◌, ◌-ℤ◌, nat_abs, Bool, true, false, cond, refl, sym, ap, ◌∙◌, arith}
use Rattle.std.specs.Prelude.{int_le, ◌^◌, ◌-◌, min}
use Rattle.std.proofs.lemmas.Int.{ints}
use Rattle.mp_tables.specs.declared.types.Bounds.{Bounds}
use Rattle.mp_tables.specs.Sizes.{saturated, values_in}
use Rattle.mp_layout.specs.Laws.{CountsValues}

span : (low high : ℤ) → int_le low high ≡ true → low +ℤ pos (nat_abs (high -ℤ low +ℤ pos 1)) ≡ high +ℤ pos 1
span low high e = grind (arith, ints)

-- one more than the difference
pub values-difference : (low high : ℤ) → int_le low high ≡ true → nat_abs (high -ℤ low +ℤ pos 1) ≡ nat_abs (high -ℤ low) + 1
values-difference low high e = grind (arith, ints)

-- the difference of the bounds is taken without sign, and one is added where it fits
pub saturated-values :
    (b : Bounds) (low high : ℤ) (difference sum : ℕ) →
    low ≡ b.low → high ≡ b.high → int_le low high ≡ true →
    difference ≡ nat_abs (high -ℤ low) → sum ≡ min (difference + 1) (2 ^ 64 - 1) →
    saturated sum ≡ saturated (values_in b)
saturated-values b low high difference sum l h t d s =
    let t' : int_le b.low b.high ≡ true = ap (λ z. int_le z b.high) (sym l) ∙ ap (int_le low) (sym h) ∙ t in
    let d' : difference ≡ nat_abs (b.high -ℤ b.low) = d ∙ ap (λ z. nat_abs (z -ℤ low)) h ∙ ap (λ z. nat_abs (b.high -ℤ z)) l in
    let v : values_in b ≡ nat_abs (b.high -ℤ b.low) + 1 = ap (λ x. cond x (nat_abs (b.high -ℤ b.low +ℤ pos 1)) 0) t' ∙ values-difference b.low b.high t' in
    omega (arith, v, d', s)

pub no_values : (b : Bounds) (low high : ℤ) → low ≡ b.low → high ≡ b.high → int_le low high ≡ false → 0 ≡ saturated (values_in b)
no_values b low high l h t =
    let t' : int_le b.low b.high ≡ false = ap (λ z. int_le z b.high) (sym l) ∙ ap (int_le low) (sym h) ∙ t in
    let v : values_in b ≡ 0 = ap (λ x. cond x (nat_abs (b.high -ℤ b.low +ℤ pos 1)) 0) t' in
    omega (arith, v)

pub counts_values : (b : Bounds) → CountsValues b
counts_values b = (
  λ e. ap (λ t. b.low +ℤ pos (cond t (nat_abs (b.high -ℤ b.low +ℤ pos 1)) 0)) e ∙ span b.low b.high e,
  λ e. ap (λ t. cond t (nat_abs (b.high -ℤ b.low +ℤ pos 1)) 0) e,
)
