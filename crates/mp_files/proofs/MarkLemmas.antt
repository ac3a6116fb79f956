-- Marks after a place is marked.
use Rattle.std.proofs.Common.{◌≡◌, ℕ, ◌+◌, ◌*◌, ◌/◌, ◌%◌, ◌^◌, ◌<◌, ◌==◌, ◌||◌, List, length, get_or, set, refl, ap, sym, ◌∙◌, inl, inr, arith}
use Rattle.std.proofs.lemmas.Bool.{cases_eq, ne_eqb, eq-eqb}
use Rattle.std.proofs.lemmas.List.{get_or-set_same, get_or-set_other}
use Rattle.std.proofs.lemmas.Nat.{mod_below}
use Rattle.std.proofs.lemmas.Nat.Bits.{bit_at_set_same, bit_at_set_other}
use Rattle.std.proofs.Math.Nat.{div-add-mod'}
use Rattle.std.specs.Int.{bit_at, w8}
use Rattle.std.specs.Int.RustNames.{bit_or}
use Rattle.mp_files.specs.Stored.{is_marked}

-- the lane of a place with its bit set
abbrev with_bit : ℕ → ℕ → ℕ
with_bit lane at = bit_or lane (1 * 2 ^ (at % 8) % 2 ^ 8)

same_place : (at k : ℕ) → k / 8 ≡ at / 8 → k % 8 ≡ at % 8 → k ≡ at
same_place at k lane bit = sym (div-add-mod' k 8) ∙ ap (λ n. n * 8 + k % 8) lane ∙ ap (λ n. at / 8 * 8 + n) bit ∙ div-add-mod' at 8

in_lane : (lane at k : ℕ) → k / 8 ≡ at / 8 → (bit_at (with_bit lane at) (k % 8) == 1) ≡ (k == at || bit_at lane (k % 8) == 1)
in_lane lane at k same = elim (cases_eq (k % 8) (at % 8)) [
  | inl bit ↦ rw (eq-eqb k at (same_place at k same bit), bit, bit_at_set_same w8 lane (at % 8) (mod_below at 8 (omega arith))) refl
  | inr other ↦ rw (ne_eqb k at (λ e. other (ap (λ n. n % 8) e)), bit_at_set_other w8 lane (at % 8) (mod_below at 8 (omega arith)) (k % 8) other) refl
]

-- one place more is marked
pub marked-set : (marks : List ℕ) (at : ℕ) → at / 8 < length marks → (k : ℕ) →
    is_marked (set marks (at / 8) (bit_or (get_or marks (at / 8) 0) (1 * 2 ^ (at % 8) % 2 ^ 8))) k ≡ (k == at || is_marked marks k)
marked-set marks at within k = elim (cases_eq (k / 8) (at / 8)) [
  | inl same ↦ rw (same, get_or-set_same marks (at / 8) (with_bit (get_or marks (at / 8) 0) at) 0 within) (in_lane (get_or marks (at / 8) 0) at k same)
  | inr other ↦ rw (get_or-set_other marks (at / 8) (k / 8) (with_bit (get_or marks (at / 8) 0) at) 0 other, ne_eqb k at (λ e. other (ap (λ n. n / 8) e))) refl
]
