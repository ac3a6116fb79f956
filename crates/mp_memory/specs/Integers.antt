-- Integers, from -maxint to maxint (ISO 7185, 6.4.2.2 and 6.7.2.2).
use Rattle.std.specs.Prelude.{Bool, ◌&&◌, cond, Option, Some, None, ℤ, pos, int_le, ◌-ℤ◌}
use Rattle.mp_base.specs.declared.limits.TheConstants.{MAXINT}

abbrev pub is_integer : ℤ → Bool
is_integer n = int_le (pos 0 -ℤ pos MAXINT) n && int_le n (pos MAXINT)

-- a result, where it is an integer
abbrev pub as_integer : ℤ → Option ℤ
as_integer n = cond (is_integer n) (Some n) None
