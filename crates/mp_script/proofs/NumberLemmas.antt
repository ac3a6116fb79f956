-- Numbers have at most 9 digits, so commands want few lines.
use Rattle.std.proofs.Common.{◌≡◌, ◌<◌, ◌≤◌, ◌+◌, ◌-◌, ◌*◌, ◌^◌, ℕ, zero, suc, List, [], ◌∷◌, length, get_or, take, map, None, Some, Bool, true}
use Rattle.std.proofs.Common.{false, ◌&&◌, nat_le, IsTrue, cond, refl, ap, sym, ◌∙◌, arith, add-one}
use Rattle.std.proofs.Math.Nat.{pow-le-pow_right}
use native.Mathlib.Numerals.{unary_clauses}
use Rattle.std.proofs.lemmas.List.{take_all}
use Rattle.std.proofs.lemmas.List.Sums.{fold_more}
use Rattle.std.proofs.lemmas.List.Folds.{list_all_at}
use Rattle.std.proofs.lemmas.Bool.{and_parts, leb-true}
use Rattle.std.proofs.lemmas.Bool.Decides.{nat_tests}
use Rattle.std.specs.List.{list_all}
use Rattle.std.specs.Char.{is_ascii_digit}
use Rattle.mp_lex.specs.Meaning.{digits_value}
use Rattle.mp_script.specs.Numbers.{number_of, IsSmall, AreSmall}

digit_between : (b : ℕ) → is_ascii_digit b ≡ true → (48 ≤ b) × (b ≤ 57)
digit_between b h = (grind (arith, nat_tests), grind (arith, nat_tests))

-- each byte of digits is one
pub digit_at : (word : List ℕ) (i : ℕ) → i < length word → IsTrue (list_all is_ascii_digit word) → (48 ≤ get_or word i 0) × (get_or word i 0 ≤ 57)
digit_at word i lt h = digit_between (get_or word i 0) (at (is_ascii_digit (get_or word i 0)) refl)
  where
    at : (v : Bool) → is_ascii_digit (get_or word i 0) ≡ v → v ≡ true
    at true e = refl
    at false e = let f : false ≡ true = sym (list_all_at is_ascii_digit word i 0 lt e) ∙ h in absurd (cc)

pub power_small : (i : ℕ) → i < 9 → 10 ^ i ≤ 100000000
power_small i h = pow-le-pow_right {n = 10} (omega arith) {i = i} {j = 8} (omega arith)

power_last : (i : ℕ) → i ≤ 9 → 10 ^ i ≤ 1000000000
power_last i h = pow-le-pow_right {n = 10} (omega arith) {i = i} {j = 9} (omega arith)

power_more : (i : ℕ) → 10 ^ (i + 1) ≡ 10 * 10 ^ i
power_more i = rw add-one (simp unary_clauses (omega arith))

value_none : (xs : List ℕ) → digits_value (take 0 xs) ≡ 0
value_none [] = refl
value_none (x ∷ xs) = refl

pub value_more : (xs : List ℕ) (i : ℕ) → i < length xs → digits_value (take (i + 1) xs) ≡ digits_value (take i xs) * 10 + (get_or xs i 0 - 48)
value_more xs i h = fold_more (λ value digit. value * 10 + (digit - 48)) 0 xs i 0 h

-- so many digits are less than that power of ten
pub value_small : (xs : List ℕ) (i : ℕ) → IsTrue (list_all is_ascii_digit xs) → i ≤ length xs → digits_value (take i xs) < 10 ^ i
value_small xs zero h le = omega (arith, value_none xs)
value_small xs (suc i) h le =
    let d = digit_at xs i (omega arith) h in
    let e : suc i ≡ i + 1 = omega arith in
    let more = ap (λ k. digits_value (take k xs)) e ∙ value_more xs i (omega arith) in
    let power = ap (λ k. 10 ^ k) e ∙ power_more i in
    omega (arith, more, power, d.0, d.1, value_small xs i h (omega arith))

pub value_less : (word : List ℕ) → IsTrue (list_all is_ascii_digit word) → length word ≤ 9 → digits_value word < 1000000000
value_less word h le =
    let all : digits_value (take (length word) word) ≡ digits_value word = ap digits_value (take_all (length word) word (omega arith)) in
    omega (arith, all, value_small word (length word) h (omega arith), power_last (length word) le)

number_small : (word : List ℕ) → IsSmall (number_of word)
unfolding number_of
number_small word = at (list_all is_ascii_digit word && nat_le 1 (length word) && nat_le (length word) 9) refl
  where
    at : (v : Bool) → (list_all is_ascii_digit word && nat_le 1 (length word) && nat_le (length word) 9) ≡ v → IsSmall (cond v (Some (digits_value word)) None)
    at true e =
        let p = and_parts (list_all is_ascii_digit word && nat_le 1 (length word)) (nat_le (length word) 9) e in
        let q = and_parts (list_all is_ascii_digit word) (nat_le 1 (length word)) p.0 in
        value_less word q.0 (leb-true (length word) 9 p.1)
    at false e = tt

pub numbers_small : (words : List (List ℕ)) → AreSmall (map number_of words)
numbers_small [] = tt
numbers_small (word ∷ words) = (number_small word, numbers_small words)
