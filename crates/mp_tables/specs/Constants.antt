-- Constants (ISO 7185, 6.3).
use Rattle.std.specs.Prelude.{ℕ, ℤ, pos, neg_ℤ, Bool, true, false, ◌&&◌, not, List, [], ◌∷◌, ◌++◌, length, Option, Some, None, bytes_eq}
use Rattle.std.specs.List.{list_any}
use Rattle.std.specs.Ordering.{int_eq}
use Rattle.mp_base.specs.declared.limits.TheConstants.{MAXINT}
use Rattle.mp_ast.specs.declared.leaves.SignKind.{SignKind}
use Rattle.mp_ast.specs.declared.leaves.SignKind.TheVariants as sign
use Rattle.mp_ast.specs.declared.leaves.Sign.{Sign}
use Rattle.mp_ast.specs.declared.leaves.Constant.{Constant}
use Rattle.mp_ast.specs.declared.leaves.Constant.TheVariants as constants
use Rattle.mp_ast.specs.FirstTokens.{first_of_constant}
use Rattle.mp_tables.specs.declared.types.TypeId.{TypeId}
use Rattle.mp_tables.specs.declared.types.TypeId.TheVariants as type
use Rattle.mp_tables.specs.declared.types.Shape.TheVariants as shape
use Rattle.mp_tables.specs.declared.types.Typed.{Typed}
use Rattle.mp_tables.specs.declared.required.Required.TheVariants as name
use Rattle.mp_tables.specs.declared.declarations.ConstantValue.{ConstantValue}
use Rattle.mp_tables.specs.declared.declarations.ConstantValue.TheVariants as value
use Rattle.mp_tables.specs.declared.declarations.Decl.TheVariants as decl
use Rattle.mp_tables.specs.Reports.{Threads, Rule, pure, ◌>>=◌, ◌>>◌, report_if, refuse}
use Rattle.mp_tables.specs.TypeRelations.{same}
use Rattle.mp_tables.specs.Names.{Use, Declared, Lookup, typed}

abbrev pub integer_constant : ℕ → ConstantValue
integer_constant n = value.Ordinal type.Integer (pos n)

-- a string of one character is a char constant
abbrev pub string_constant : List ℕ → ConstantValue
string_constant (c ∷ []) = value.Ordinal type.Char (pos c)
string_constant characters = value.Text characters

abbrev pub with_sign : SignKind → ℤ → ℤ
with_sign sign.Plus n = n
with_sign sign.Minus n = neg_ℤ n

-- 322: a sign stands before a constant that is no integer. At the sign.
abbrev pub signed : Option Sign → Option ConstantValue → Rule (Option ConstantValue)
signed None v = pure v
signed (Some s) None = pure None
signed (Some s) (Some (value.Ordinal type.Integer n)) = pure (Some (value.Ordinal type.Integer (with_sign s.kind n)))
signed (Some s) (Some _) = refuse 322 s.at

-- 305: a constant is wanted, and the name is none. At the name.
abbrev pub constant_use : ℕ → Option Use → Rule (Option ConstantValue)
constant_use at None = pure None
constant_use at (Some (Declared (decl.Const path v))) = pure v
constant_use at (Some (Declared (decl.Required name.False))) = pure (Some (value.Ordinal type.Boolean (pos 0)))
constant_use at (Some (Declared (decl.Required name.True))) = pure (Some (value.Ordinal type.Boolean (pos 1)))
constant_use at (Some (Declared (decl.Required name.Maxint))) = pure (Some (integer_constant MAXINT))
constant_use at (Some _) = refuse 305 at

-- the value of a constant, where it is not missing
abbrev pub constant : Lookup → Constant → Rule (Option ConstantValue)
constant look (constants.Number s n) = signed s (Some (integer_constant n.value))
constant look (constants.Name s x) = look x >>= constant_use x.at >>= signed s
constant look (constants.Text s) = pure (Some (string_constant s.characters))

-- the type of a constant: its host type, or a character-string
abbrev pub constant_type : {S : Type 0} → ConstantValue → Threads S Typed
constant_type (value.Ordinal host n) = typed host
constant_type (value.Text characters) = pure (record { id = None; shape = shape.Str (length characters) })

-- ---- constants of a case statement or a variant part (6.4.3.3, 6.8.3.5)

abbrev pub same_constant : ConstantValue → ConstantValue → Bool
same_constant (value.Ordinal a m) (value.Ordinal b n) = same a b && int_eq m n
same_constant (value.Text s) (value.Text t) = bytes_eq s t
same_constant (value.Ordinal a m) (value.Text t) = false
same_constant (value.Text s) (value.Ordinal b n) = false

-- a value of this host type; a missing type takes each
abbrev pub constant_fits : Option TypeId → ConstantValue → Bool
constant_fits None v = true
constant_fits (Some host) (value.Ordinal h n) = same host h
constant_fits (Some host) (value.Text s) = false

-- the values of these constants, and those of them and before them
pub record Selecting : Type 0 where
  pub values : List ℤ
  pub known : List ConstantValue

abbrev pub numbers : ConstantValue → List ℤ
numbers (value.Ordinal host n) = n ∷ []
numbers (value.Text s) = []

-- 324: a constant of another type than the index or the tag. 325: the same value stands before. Both at the constant's first
-- token.
abbrev pub selecting_by : Option TypeId → ℕ → Selecting → Option ConstantValue → Rule Selecting
selecting_by host at s None = pure s
selecting_by host at s (Some v) = do
  report_if (not (constant_fits host v)) 324 at
  report_if (list_any (same_constant v) s.known) 325 at
  pure (record { values = s.values ++ numbers v; known = v ∷ s.known })

abbrev pub selecting : Lookup → Option TypeId → List Constant → Selecting → Rule Selecting
selecting look host [] s = pure s
selecting look host (c ∷ constants) s = constant look c >>= selecting_by host (first_of_constant c) s >>= selecting look host constants
