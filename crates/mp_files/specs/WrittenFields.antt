-- What `write` writes for a value in a field of a width (ISO 7185, 6.9.3).
use Rattle.std.specs.Prelude.{ℕ, ◌-◌, Bool, if◌then◌else◌, List, ◌++◌, length, take, replicate, Option, Some, None, ℤ, pos, negsuc, int_lt, codes}
use Rattle.std.specs.Fmt.{signed_decimal}
use Rattle.mp_base.specs.declared.limits.TheConstants.{WIDTH_LIMIT}
use Rattle.mp_files.specs.declared.causes.FileEnd.{FileEnd}
use Rattle.mp_files.specs.declared.causes.FileEnd.TheVariants as end
use Rattle.mp_files.specs.declared.causes.TheConstants.{WIDTH_BELOW_ONE, WIDTH_TOO_LARGE}

-- right-justified, with spaces in front
abbrev pub padded : ℕ → List ℕ → List ℕ
padded width bytes = replicate (width - length bytes) 32 ++ bytes

-- the same, cut to the width
abbrev pub padded_or_cut : ℕ → List ℕ → List ℕ
padded_or_cut width bytes = take width (padded width bytes)

-- an integer is written whole, in more bytes than the width where it needs them (6.9.3.2)
abbrev pub integer_field : ℕ → ℤ → List ℕ
integer_field width n = padded width (signed_decimal n)

-- a Boolean value (6.9.3.5)
abbrev pub truth_text : Bool → List ℕ
truth_text value = if value then codes "True" else codes "False"

abbrev pub truth_field : ℕ → Bool → List ℕ
truth_field width value = padded_or_cut width (truth_text value)

-- a character (6.9.3.3) or a string (6.9.3.6)
abbrev pub character_field : ℕ → List ℕ → List ℕ
character_field width bytes = padded_or_cut width bytes

-- a width is at least 1 and at most the greatest
abbrev pub width_refusal : ℤ → Option FileEnd
width_refusal width = if int_lt width (pos 1) then Some (end.Fault WIDTH_BELOW_ONE)
    else if int_lt (pos WIDTH_LIMIT) width then Some (end.Limit WIDTH_TOO_LARGE)
    else None

-- a width that is not refused as a natural number
abbrev pub width_of : ℤ → ℕ
width_of (pos n) = n
width_of (negsuc n) = 0
