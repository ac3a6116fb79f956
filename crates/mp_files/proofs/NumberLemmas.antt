-- Numbers that are read from a file that is kept.
use Rattle.std.proofs.Common.{◌≡◌, ℕ, zero, suc, ◌+◌, ◌-◌, ◌<◌, ◌≤◌, false, cond, List, [], ◌∷◌, length, take, drop, refl, ap, sym, ◌∙◌, arith, Some, None}
use Rattle.std.proofs.lemmas.Bool.{lt-ltb, le-ltb}
use Rattle.std.proofs.lemmas.List.{drop-drop, length-take-le}
use Rattle.std.proofs.lemmas.List.Sums.{prefix_len-le-length}
use Rattle.std.specs.List.{prefix_len}
use Rattle.std.specs.Prelude.{slice_get, nat_lt, ℤ}
use Rattle.mp_base.specs.declared.limits.TheConstants.{MAXINT}
use Rattle.mp_files.specs.declared.causes.TheConstants.{INTEGER_OVERFLOW, NO_NUMBER}
use Rattle.mp_files.specs.declared.items.Item.{Item}
use Rattle.mp_files.specs.declared.stored_file.Place.TheVariants as place
use Rattle.mp_files.specs.Items.{is_digit, is_minus, is_space}
use Rattle.mp_files.specs.TextFiles.{FileCall, Gives, Fails, TextFile, at_item, digits_of, is_negative, is_nothing, moved, number_at, read_number, sign_len, signed, value_of}
use Rattle.mp_files.specs.Stored.{file_kept}
use Rattle.mp_files.proofs.ReadingLemmas.{minus_at}
use Rattle.mp_files.proofs.FileLemmas.{moved_kept, reads, reads_none}

abbrev pub at_place : List Item → ℕ → TextFile
at_place xs at = file_kept xs (place.Reading at)

-- the call that is left once spaces are skipped
number_from : (xs : List Item) (at start : ℕ) → start ≡ at + prefix_len is_space (drop at xs) →
    read_number (at_place xs at) ≡ at_item (at_place xs start) (number_at (at_place xs start) (drop start xs))
number_from xs at start is =
    ap (λ g. at_item g (number_at g g.behind)) (moved_kept xs at (prefix_len is_space (drop at xs)) ∙ ap (at_place xs) (sym is))

-- where nothing stands behind the spaces
pub number_past : (xs : List Item) (at start : ℕ) → start ≡ at + prefix_len is_space (drop at xs) → slice_get xs start ≡ None → read_number (at_place xs at) ≡ Fails 11
number_past xs at start is none = number_from xs at start is ∙ reads_none xs start (number_at (at_place xs start) (drop start xs)) none

-- the digits behind the sign
abbrev digits_at : List Item → ℕ → List Item
digits_at xs digits = take (prefix_len is_digit (drop digits xs)) (drop digits xs)

digits_found : (xs : List Item) (start digits : ℕ) → digits ≡ start + sign_len (drop start xs) → digits_of (drop start xs) ≡ digits_at xs digits
digits_found xs start digits is =
    ap (λ l. take (prefix_len is_digit l) l) (drop-drop (sign_len (drop start xs)) start xs ∙ ap (λ n. drop n xs) (sym is))

some_taken : (n : ℕ) (l : List Item) → 0 < n → n ≤ length l → is_nothing (take n l) ≡ false
some_taken zero l some within = absurd (omega arith)
some_taken (suc n) [] some within = absurd (omega arith)
some_taken (suc n) (x ∷ l) some within = refl

-- a number by its digits
abbrev with_digits : TextFile → List Item → List Item → FileCall ℤ
with_digits f items ds = cond (is_nothing ds) (Fails NO_NUMBER)
    (cond (nat_lt MAXINT (value_of ds)) (Fails INTEGER_OVERFLOW) (Gives (signed (is_negative items) (value_of ds)) (moved (sign_len items + length ds) f)))

module _ (xs : List Item) (at start digits end : ℕ) (first : Item)
    (begins : start ≡ at + prefix_len is_space (drop at xs)) (found : slice_get xs start ≡ Some first)
    (sign : digits ≡ start + sign_len (drop start xs)) (ends : end ≡ digits + prefix_len is_digit (drop digits xs)) where
  by_digits : read_number (at_place xs at) ≡ with_digits (at_place xs start) (drop start xs) (take (end - digits) (drop digits xs))
  by_digits =
      number_from xs at start begins
      ∙ reads xs start first (number_at (at_place xs start) (drop start xs)) found
      ∙ ap (with_digits (at_place xs start) (drop start xs)) (digits_found xs start digits sign ∙ ap (λ n. take n (drop digits xs)) (omega (arith, ends)))

  some_digits : (end ≡ digits → ⊥) → is_nothing (take (end - digits) (drop digits xs)) ≡ false
  some_digits some = some_taken (end - digits) (drop digits xs) (omega (arith, some, ends)) (omega (arith, ends, prefix_len-le-length is_digit (drop digits xs)))

  -- a value past the greatest integer
  pub number_too_large : (end ≡ digits → ⊥) → MAXINT < value_of (take (end - digits) (drop digits xs)) → read_number (at_place xs at) ≡ Fails INTEGER_OVERFLOW
  number_too_large some large = by_digits ∙ rw (some_digits some, lt-ltb MAXINT (value_of (take (end - digits) (drop digits xs))) large) refl

  digits_len : length (take (end - digits) (drop digits xs)) ≡ end - digits
  digits_len = length-take-le (end - digits) (drop digits xs) (omega (arith, ends, prefix_len-le-length is_digit (drop digits xs)))

  -- a value that fits
  pub number_read : (end ≡ digits → ⊥) → value_of (take (end - digits) (drop digits xs)) ≤ MAXINT →
      read_number (at_place xs at) ≡ Gives (signed (is_minus first) (value_of (take (end - digits) (drop digits xs)))) (at_place xs end)
  number_read some small =
      let value = value_of (take (end - digits) (drop digits xs)) in
      by_digits ∙ rw (some_digits some, le-ltb MAXINT value small, digits_len) (
      ap (λ m. Gives (signed m value) (moved (sign_len (drop start xs) + (end - digits)) (at_place xs start))) (minus_at xs start first found)
      ∙ ap (Gives (signed (is_minus first) value)) (moved_kept xs start (sign_len (drop start xs) + (end - digits)) ∙ ap (at_place xs) (omega (arith, sign, ends))))
