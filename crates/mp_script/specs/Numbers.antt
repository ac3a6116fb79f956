-- The numbers of commands.
use Rattle.std.specs.Prelude.{ℕ, ◌<◌, ◌&&◌, List, [], ◌∷◌, nat_le, length, if◌then◌else◌, Option, None, Some}
use Rattle.std.specs.List.{list_all}
use Rattle.std.specs.Option.{IfSome}
use Rattle.std.specs.Char.{is_ascii_digit}
use Rattle.mp_lex.specs.Meaning.{digits_value}

-- the number that a word is, if it is one: 1 to 9 decimal digits
unfoldable pub number_of : List ℕ → Option ℕ
number_of word = if list_all is_ascii_digit word && nat_le 1 (length word) && nat_le (length word) 9 then Some (digits_value word) else None

-- just one number, of words of which some may be none
abbrev pub one : List (Option ℕ) → Option ℕ
one [] = None
one (a ∷ []) = a
one (a ∷ b ∷ rest) = None

abbrev pub pair : Option ℕ → Option ℕ → Option (ℕ × ℕ)
pair (Some a) (Some b) = Some (a, b)
pair (Some a) None = None
pair None b = None

-- just two numbers
abbrev pub two : List (Option ℕ) → Option (ℕ × ℕ)
two [] = None
two (a ∷ []) = None
two (a ∷ b ∷ []) = pair a b
two (a ∷ b ∷ c ∷ rest) = None

abbrev pub with_third : Option (ℕ × ℕ) → Option ℕ → Option (ℕ × ℕ × ℕ)
with_third (Some p) (Some c) = Some (p.0, p.1, c)
with_third (Some p) None = None
with_third None c = None

-- just three numbers
abbrev pub three : List (Option ℕ) → Option (ℕ × ℕ × ℕ)
three [] = None
three (a ∷ []) = None
three (a ∷ b ∷ []) = None
three (a ∷ b ∷ c ∷ []) = with_third (pair a b) c
three (a ∷ b ∷ c ∷ d ∷ rest) = None

abbrev pub some_number : Option ℕ → Option (Option ℕ)
some_number None = None
some_number (Some n) = Some (Some n)

-- one number, which may be left out
abbrev pub perhaps : List (Option ℕ) → Option (Option ℕ)
perhaps [] = Some None
perhaps (a ∷ []) = some_number a
perhaps (a ∷ b ∷ rest) = None

-- each number that there is has at most 9 digits
abbrev pub IsSmall : Option ℕ → Type 0
IsSmall number = IfSome number (λ n. n < 1000000000)

abbrev pub AreSmall : List (Option ℕ) → Type 0
AreSmall [] = Unit {0}
AreSmall (n ∷ ns) = IsSmall n × AreSmall ns
