-- Which types are compatible, case by case, and which are string types: what the tests of identities and shapes are to tell.
use Rattle.std.specs.Prelude.{◌≡◌, ℕ, ◌<◌, pos, Bool, true, false, Option, Some, None, option_map}
use Rattle.mp_tables.specs.declared.types.TypeId.{TypeId}
use Rattle.mp_tables.specs.declared.types.TypeId.TheVariants as type
use Rattle.mp_tables.specs.declared.types.Bounds.{Bounds}
use Rattle.mp_tables.specs.declared.types.ArrayShape.{ArrayShape}
use Rattle.mp_tables.specs.declared.types.Shape.{Shape}
use Rattle.mp_tables.specs.declared.types.Shape.TheVariants as shape
use Rattle.mp_tables.specs.declared.types.Typed.{Typed}
use Rattle.mp_tables.specs.TypeRelations.{StringForm, NoString, OfLength, OfSomeLength, holds_file, ordinal, string_form}

-- two are one, where both are known
abbrev pub Agree : {A : Type 0} → Option A → Option A → Type 0
Agree {A} o p = (x y : A) → o ≡ Some x → p ≡ Some y → x ≡ y

-- ---- string types (ISO 7185, 6.4.3.2)

-- a character-string, or packed array [1..n] of char with n > 1
pub data IsStringType : Shape → ℕ → Type 0 where
  CharacterString : (n : ℕ) → IsStringType (shape.Str n) n
  PackedArray :
      (a : ArrayShape) (n : ℕ) →
      a.packed ≡ true → a.index ≡ Some (record { host = type.Integer; low = pos 1; high = pos n }) → 1 < n → a.component ≡ Some type.Char →
      IsStringType (shape.Arr a) n

-- a string of this length, or a type that may be one, since a part of it is missing
abbrev pub MayHaveLength : StringForm → ℕ → Type 0
MayHaveLength NoString n = ⊥
MayHaveLength (OfLength m) n = m ≡ n
MayHaveLength OfSomeLength n = Unit {0}

-- ---- compatible types (ISO 7185, 6.4.5)

abbrev pub IsPointer : Typed → Type 0
IsPointer t = (domain : Option TypeId) × (t.shape ≡ shape.Ptr domain)

-- the type of `nil`
abbrev pub IsNil : Typed → Type 0
IsNil t = (t.id ≡ None) × IsPointer t

abbrev pub host_of : Option Bounds → Option TypeId
host_of b = option_map (λ x. x.host) b

pub data IsCompatible (a b : Typed) : Type 0 where
  -- they are one type
  SameType : (id : TypeId) → a.id ≡ Some id → b.id ≡ Some id → IsCompatible a b
  -- ordinal types: one is a subrange of the other, or both are subranges of one type
  SameHost : (x y : Bounds) → ordinal a ≡ Some x → ordinal b ≡ Some y → x.host ≡ y.host → IsCompatible a b
  -- set types over such ordinal types, both packed or both not
  SetsAlike :
      (p q : Option Bool) (x y : Option Bounds) →
      a.shape ≡ shape.SetOf p x → b.shape ≡ shape.SetOf q y → Agree p q → Agree (host_of x) (host_of y) →
      IsCompatible a b
  -- `nil` and a pointer type
  NilFirst : IsNil a → IsPointer b → IsCompatible a b
  NilSecond : IsPointer a → IsNil b → IsCompatible a b
  -- strings of one length
  SameLength : (n : ℕ) → MayHaveLength (string_form a.shape) n → MayHaveLength (string_form b.shape) n → IsCompatible a b

-- ---- assignment-compatible types (ISO 7185, 6.4.6)

-- compatible; and where the two are one type, it is no file and holds none
pub record IsAssignable (value target : Typed) : Type 0 where
  pub fits : IsCompatible value target
  pub no_file : (id : TypeId) → value.id ≡ Some id → target.id ≡ Some id → holds_file target.shape ≡ false
