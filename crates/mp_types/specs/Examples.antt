-- Some types, to show which of them fit each other.
use Rattle.std.specs.Prelude.{ℕ, pos, Bool, true, false, List, [], ◌∷◌, Option, Some, None, codes}
use Rattle.mp_tables.specs.declared.types.TypeId.{TypeId}
use Rattle.mp_tables.specs.declared.types.TypeId.TheVariants as type
use Rattle.mp_tables.specs.declared.types.Shape.{Shape}
use Rattle.mp_tables.specs.declared.types.Shape.TheVariants as shape
use Rattle.mp_tables.specs.declared.types.Typed.{Typed}
use Rattle.mp_tables.specs.RequiredNames.{integer_bounds, char_bounds}

-- a type of the program's block, by the ordinal of its denoter
abbrev pub own_type : ℕ → Shape → Typed
own_type at s = record { id = Some (type.Own [] at); shape = s }

abbrev pub integer : Typed
integer = record { id = Some type.Integer; shape = shape.Range integer_bounds }

abbrev pub char : Typed
char = record { id = Some type.Char; shape = shape.Range char_bounds }

-- 1..9, by the ordinal of its denoter
abbrev pub digits : ℕ → Typed
digits at = own_type at (shape.Range (record { host = type.Integer; low = pos 1; high = pos 9 }))

-- (red, green)
abbrev pub colours : ℕ → Typed
colours at = own_type at (shape.Names (codes "red" ∷ codes "green" ∷ []))

-- set of char, or packed set of char
abbrev pub set_of_char : ℕ → Bool → Typed
set_of_char at p = own_type at (shape.SetOf (Some p) (Some char_bounds))

-- ['a'], a set constructor, and []
abbrev pub letters : Typed
letters = record { id = None; shape = shape.SetOf None (Some char_bounds) }

abbrev pub empty_set : Typed
empty_set = record { id = None; shape = shape.SetOf None None }

-- ^integer, and nil
abbrev pub pointer : ℕ → Typed
pointer at = own_type at (shape.Ptr (Some type.Integer))

abbrev pub nil_type : Typed
nil_type = record { id = None; shape = shape.Ptr None }

-- packed array [1..n] of char, or without `packed`
abbrev pub characters : ℕ → Bool → ℕ → Typed
characters at p n =
    own_type at
    (shape.Arr
    (record {
      packed = p;
      index = Some (record { host = type.Integer; low = pos 1; high = pos n });
      component = Some type.Char;
      size = 1;
      cells = n;
      file = false;
    }))

-- a character-string of n characters
abbrev pub text_of_length : ℕ → Typed
text_of_length n = record { id = None; shape = shape.Str n }

-- a record without fields
abbrev pub empty_record : ℕ → Typed
empty_record at = own_type at (shape.Rec (record { packed = false; slots = []; parts = []; cells = 0; file = false }))

abbrev pub text_file : Typed
text_file = record { id = Some type.Text; shape = shape.Text }
