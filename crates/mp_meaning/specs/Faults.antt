-- The faults that a run may meet (ISO 7185, 3.1), and the limits of this implementation, by their numbers. Those of files
-- and fields of `write` are named where files are defined: an overflow, the end of a file, a wrong state, no number, a
-- width below 1, a width that is too large, and too many bytes.
use Rattle.std.specs.Prelude.{ℕ}

-- div by 0, mod by a value below 1 (6.7.2.2)
abbrev pub bad_divisor : ℕ
bad_divisor = 2

-- a value that is not assignment-compatible with the type (6.4.6)
abbrev pub outside_type : ℕ
outside_type = 3

-- an index that is no value of the index type (6.5.3.2), also in `pack` and `unpack` (6.6.5.4)
abbrev pub outside_bounds : ℕ
outside_bounds = 4

-- a case index that is none of the case constants (6.8.3.5)
abbrev pub no_case : ℕ
no_case = 5

-- succ, pred or chr without a value (6.6.6.4)
abbrev pub no_such_value : ℕ
no_such_value = 6

-- a pointer that is nil (6.5.4, 6.6.5.3)
abbrev pub nil_pointer : ℕ
nil_pointer = 7

-- a variable of an object that was disposed of (6.6.5.3)
abbrev pub disposed_variable : ℕ
disposed_variable = 8

-- a value that is undefined where it is read (6.5.1, 6.7.1)
abbrev pub undefined_value : ℕ
undefined_value = 9

-- a field of a variant that is not active (6.5.3.3)
abbrev pub variant_not_active : ℕ
variant_not_active = 10

-- a member of a set outside 0 to 255, the greatest set that this implementation has (6.7.1)
abbrev pub member_outside : ℕ
member_outside = 15

-- limits: the live activations, and the cells of all live variables
abbrev pub too_many_activations : ℕ
too_many_activations = 1

abbrev pub too_many_cells : ℕ
too_many_cells = 2
