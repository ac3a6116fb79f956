-- Numbers as operands, and as members of sets (ISO 7185, 6.4.2.2, 6.4.3.4, 6.7.2).
use Rattle.std.specs.Prelude.{ℕ, ◌+◌, ◌-◌, ◌%◌, Bool, true, false, not, ◌&&◌, ◌||◌, List, [], ◌∷◌, nat_eq, nat_lt, ℤ, pos}
use Rattle.std.specs.Prelude.{negsuc, int_le}
use Rattle.std.specs.List.{range_with_len, list_any, list_all}
use Rattle.mp_memory.specs.Sets.{is_member}

abbrev pub same_number : ℤ → ℤ → Bool
same_number (pos m) (pos n) = nat_eq m n
same_number (negsuc m) (negsuc n) = nat_eq m n
same_number _ _ = false

abbrev pub one_of : ℤ → List ℤ → Bool
one_of n constants = list_any (same_number n) constants

abbrev pub lies_in : ℤ → ℤ → ℤ → Bool
lies_in low high n = int_le low n && int_le n high

-- the natural number, or 0 for a negative one
abbrev pub natural : ℤ → ℕ
natural (pos n) = n
natural (negsuc n) = 0

abbrev pub is_odd : ℤ → Bool
is_odd (pos n) = nat_eq (n % 2) 1
is_odd (negsuc n) = nat_eq (n % 2) 0

-- ---- Boolean values by their ordinal numbers (6.4.2.2)

abbrev pub truth : Bool → ℤ
truth false = pos 0
truth true = pos 1

abbrev pub is_true : ℤ → Bool
is_true n = not (same_number n (pos 0))

-- ---- members of sets

-- a member of some set
abbrev pub may_be_member : ℤ → Bool
may_be_member n = lies_in (pos 0) (pos 255) n

-- whether the set has the number, which may be none that a set can have
abbrev pub stands_in : ℤ → List ℕ → Bool
stands_in (pos n) set = is_member n set
stands_in (negsuc n) set = false

-- the numbers from the first to the last
abbrev pub numbers_from : ℕ → ℕ → List ℕ
numbers_from first last = range_with_len first (last + 1 - first)

-- all members lie between the two numbers
abbrev pub members_lie_in : ℤ → ℤ → List ℕ → Bool
members_lie_in low high set = list_all (λ n. lies_in low high (pos n)) set

-- ---- strings (6.7.2.5): the order of strings of one length

abbrev pub comes_before : List ℕ → List ℕ → Bool
comes_before [] ys = false
comes_before (x ∷ xs) [] = false
comes_before (x ∷ xs) (y ∷ ys) = nat_lt x y || (nat_eq x y && comes_before xs ys)
