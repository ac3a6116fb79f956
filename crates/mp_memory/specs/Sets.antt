-- Sets of numbers below 256 as lists of their members, each once, in ascending order (ISO 7185, 6.4.3.4 and 6.7.2.4).
use Rattle.std.specs.Prelude.{◌≡◌, ℕ, zero, suc, ◌++◌, ◌<◌, Bool, true, not, ◌&&◌, ◌||◌, List, [], ◌∷◌, filter, nat_eq}
use Rattle.std.specs.List.{list_all, list_any, range_with_len}

abbrev pub is_member : ℕ → List ℕ → Bool
is_member n set = list_any (nat_eq n) set

-- 0, 1, 2 and so on, n of them
unfoldable pub numbers : ℕ → List ℕ
numbers zero = []
numbers (suc n) = numbers n ++ n ∷ []

-- the numbers from 0 to 255 that pass the test
abbrev pub members_that : (ℕ → Bool) → List ℕ
members_that test = filter test (numbers 256)

abbrev pub union : List ℕ → List ℕ → List ℕ
union a b = members_that (λ n. is_member n a || is_member n b)

abbrev pub with_member : List ℕ → ℕ → List ℕ
with_member set n = union set (n ∷ [])

abbrev pub intersection : List ℕ → List ℕ → List ℕ
intersection a b = filter (λ n. is_member n b) a

abbrev pub difference : List ℕ → List ℕ → List ℕ
difference a b = filter (λ n. not (is_member n b)) a

abbrev pub is_included : List ℕ → List ℕ → Bool
is_included a b = list_all (λ n. is_member n b) a

-- ---- laws

-- a list that is the members of a set
abbrev pub IsSet : List ℕ → Type 0
IsSet set = members_that (λ n. is_member n set) ≡ set

-- The numbers are those of std's range, so a definition over that range says the same.
abbrev pub NumbersAreARange : Type 0
NumbersAreARange = (n : ℕ) → numbers n ≡ range_with_len 0 n

-- What each operation makes of two sets is a set, whose members are those that one expects.
pub record HasMembers (set : List ℕ) (test : ℕ → Bool) : Type 0 where
  pub is_set : IsSet set
  pub members : (n : ℕ) → n < 256 → is_member n set ≡ test n

pub record SetsAreByMembers (a b : List ℕ) : Type 0 where
  pub union : HasMembers (union a b) (λ n. is_member n a || is_member n b)
  pub intersection : HasMembers (intersection a b) (λ n. is_member n a && is_member n b)
  pub difference : HasMembers (difference a b) (λ n. is_member n a && not (is_member n b))
  pub included : is_included a b ≡ true → (n : ℕ) → n < 256 → is_member n a ≡ true → is_member n b ≡ true
  pub includes : ((n : ℕ) → n < 256 → is_member n a ≡ true → is_member n b ≡ true) → is_included a b ≡ true
  pub equal : is_included a b ≡ true → is_included b a ≡ true → a ≡ b

abbrev pub SetsAreByMembersLaw : Type 0
SetsAreByMembersLaw = (a b : List ℕ) → IsSet a → IsSet b → SetsAreByMembers a b
