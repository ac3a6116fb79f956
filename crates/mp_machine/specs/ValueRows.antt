-- Rows that work on numbers, sets, pointers and blocks of characters alone (ISO 7185, 6.7), with the faults: 1 for an
-- overflow, 2 for a divisor, 3, 4 and 6 for a range, 9 for an undefined character, 15 for a member of no set.
use Rattle.std.specs.Prelude.{ℕ, Bool, false, not, ◌&&◌, ◌||◌, List, [], ◌∷◌, map, Option, Some, None, nat_eq, bytes_eq, ℤ, pos}
use Rattle.std.specs.Prelude.{◌+ℤ◌, ◌-ℤ◌, ◌*ℤ◌, int_lt, int_div}
use Rattle.std.specs.Int.{int_rem_euclid}
use Rattle.mp_code.specs.declared.instructions.Relation.{Relation}
use Rattle.mp_code.specs.declared.instructions.Relation.TheVariants as relation
use Rattle.mp_code.specs.declared.instructions.RangeFault.{RangeFault}
use Rattle.mp_code.specs.declared.instructions.RangeFault.TheVariants as outside
use Rattle.mp_memory.specs.declared.cells.Cell.{Cell}
use Rattle.mp_memory.specs.declared.cells.Cell.TheVariants as cell
use Rattle.mp_machine.specs.Numbers.{lies_in, members_lie_in, same_number, natural, is_odd, numbers_from}
use Rattle.mp_memory.specs.Integers.{as_integer}
use Rattle.mp_memory.specs.Sets.{with_member, union, intersection, difference, is_included}
use Rattle.mp_machine.specs.Numbers.{is_true, comes_before, stands_in, may_be_member}
use Rattle.mp_machine.specs.declared.operands.Operand.{Operand}
use Rattle.mp_machine.specs.declared.operands.Operand.TheVariants.{One, Block}
use Rattle.mp_machine.specs.Outcomes.{Row, ◌>>=◌, ◌>>◌, fault, stuck, choose, unless}
use Rattle.mp_machine.specs.Operands.{take, put, put_cell, put_number, put_truth, put_members, take_cell, take_number}
use Rattle.mp_machine.specs.Operands.{take_members}

-- ---- constants

abbrev pub character_cells : List ℕ → List Cell
character_cells bytes = map (λ b. cell.Int (pos b)) bytes

-- none : block of characters
abbrev pub chars : List ℕ → Row
chars bytes = put (Block (character_cells bytes))

-- x : x x
abbrev pub dup : Row
dup = do
  x ← take_cell
  put_cell x
  put_cell x

-- ---- numbers: i j : number

abbrev pub put_or_overflow : Option ℤ → Row
put_or_overflow None = fault 1
put_or_overflow (Some n) = put_number n

-- an integer, or an overflow
abbrev pub put_integer : ℤ → Row
put_integer n = put_or_overflow (as_integer n)

abbrev pub on_numbers : (ℤ → ℤ → Row) → Row
on_numbers f = do
  j ← take_number
  i ← take_number
  f i j

abbrev pub add : Row
add = on_numbers (λ i j. put_integer (i +ℤ j))

abbrev pub sub : Row
sub = on_numbers (λ i j. put_integer (i -ℤ j))

abbrev pub mul : Row
mul = on_numbers (λ i j. put_integer (i *ℤ j))

-- truncated toward zero
abbrev pub quotient : Row
quotient = on_numbers (λ i j. choose (same_number j (pos 0)) (fault 2) (put_integer (int_div i j)))

-- the value from 0 to j - 1 that differs from i by a multiple of j
abbrev pub modulus : Row
modulus = on_numbers (λ i j. choose (int_lt (pos 0) j) (put_number (int_rem_euclid i j)) (fault 2))

abbrev pub both : Row
both = on_numbers (λ i j. put_truth (is_true i && is_true j))

abbrev pub either : Row
either = on_numbers (λ i j. put_truth (is_true i || is_true j))

-- i : number

abbrev pub neg : Row
neg = do
  i ← take_number
  put_integer (pos 0 -ℤ i)

abbrev pub odd : Row
odd = do
  i ← take_number
  put_truth (is_odd i)

abbrev pub negation : Row
negation = do
  i ← take_number
  put_truth (not (is_true i))

-- i : i
abbrev pub range_fault : RangeFault → ℕ
range_fault outside.OutsideType = 3
range_fault outside.OutsideBounds = 4
range_fault outside.NoSuchValue = 6

abbrev pub range : (low high : ℤ) → RangeFault → Row
range low high f = do
  i ← take_number
  unless (lies_in low high i) (fault (range_fault f))
  put_number i

-- ---- sets

-- set : set
abbrev pub within : (low high : ℤ) → Row
within low high = do
  set ← take_members
  unless (members_lie_in low high set) (fault 3)
  put_members set

-- i set : 0 or 1
abbrev pub has : Row
has = do
  set ← take_members
  i ← take_number
  put_truth (stands_in i set)

-- set i : set
abbrev pub one : Row
one = do
  i ← take_number
  set ← take_members
  unless (may_be_member i) (fault 15)
  put_members (with_member set (natural i))

-- set i j : set
abbrev pub span : Row
span = do
  j ← take_number
  i ← take_number
  set ← take_members
  choose (int_lt j i) (put_members set) (do
    unless (may_be_member i && may_be_member j) (fault 15)
    put_members (union set (numbers_from (natural i) (natural j))))

-- set set : set
abbrev pub on_sets : (List ℕ → List ℕ → List ℕ) → Row
on_sets f = do
  b ← take_members
  a ← take_members
  put_members (f a b)

abbrev pub join : Row
join = on_sets union

abbrev pub meet : Row
meet = on_sets intersection

abbrev pub less : Row
less = on_sets difference

-- ---- relations (6.7.2.5): x y : 0 or 1

abbrev pub holds : Relation → (before same : Bool) → Bool
holds relation.Equal before same = same
holds relation.NotEqual before same = not same
holds relation.Less before same = before
holds relation.LessOrEqual before same = before || same
holds relation.Greater before same = not (before || same)
holds relation.GreaterOrEqual before same = not before

-- `<=` and `>=` of sets are inclusion; sets have no other order
abbrev pub holds_of_sets : Relation → List ℕ → List ℕ → Bool
holds_of_sets relation.GreaterOrEqual a b = is_included b a
holds_of_sets relation.LessOrEqual a b = is_included a b
holds_of_sets r a b = holds r false (is_included a b && is_included b a)

abbrev pub cons_character : Cell → Option (List ℕ) → Option (List ℕ)
cons_character (cell.Int (pos b)) (Some more) = Some (b ∷ more)
cons_character _ _ = None

-- the characters of a block, where all are defined
abbrev pub characters_of : List Cell → Option (List ℕ)
characters_of [] = Some []
characters_of (x ∷ more) = cons_character x (characters_of more)

-- whether the relation stands between two strings, where all their characters are defined
abbrev pub string_relation : Relation → Option (List ℕ) → Option (List ℕ) → Option Bool
string_relation r None ys = None
string_relation r (Some xs) None = None
string_relation r (Some xs) (Some ys) = Some (holds r (comes_before xs ys) (bytes_eq xs ys))

abbrev pub put_defined : Option Bool → Row
put_defined None = fault 9
put_defined (Some b) = put_truth b

abbrev pub compare_strings : Relation → Option (List ℕ) → Option (List ℕ) → Row
compare_strings r xs ys = put_defined (string_relation r xs ys)

abbrev pub compare_cells : Relation → Cell → Cell → Row
compare_cells r (cell.Int i) (cell.Int j) = put_truth (holds r (int_lt i j) (same_number i j))
compare_cells r (cell.Members a) (cell.Members b) = put_truth (holds_of_sets r a b)
compare_cells r (cell.Ptr a) (cell.Ptr b) = put_truth (holds r false (nat_eq a b))
compare_cells r _ _ = stuck

abbrev pub compare : Relation → Operand → Operand → Row
compare r (One x) (One y) = compare_cells r x y
compare r (Block xs) (Block ys) = compare_strings r (characters_of xs) (characters_of ys)
compare r (One x) (Block ys) = stuck
compare r (Block xs) (One y) = stuck

abbrev pub cmp : Relation → Row
cmp r = do
  y ← take
  x ← take
  compare r x y
